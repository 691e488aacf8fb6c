use Rattle.std.proofs.Common.{refl, ap}
use Rattle.std.proofs.lemmas.Result.{err_from_is_err_and}
use Rattle.replay.specs.Stores.{holding}
use Rattle.sessionfile.specs.Entries.{entries}
use Rattle.sessionfile.specs.declared.header.FileHeader.{FileHeader}
use Rattle.sessionfile.proofs.Faults.{law_at}
use Rattle.sessionfile.proofs.Opening.{read_header, refused_header, refused_packets, refused_symbols, all_checked, opened}
use Rattle.sessionfile.proofs.file.SessionFile.open.Goals as goal

pub returns-in_err-header : goal.returns-in_err-header
returns-in_err-header c =
    let p = err_from_is_err_and c.from_residual.result c.from_residual.ensures.1 in
    let v = refused_header _ _ c.in_err-header.ensures in
    rw (p.1, p.2) record { verdict = v; law = law_at _ _ v; bytes = tt; holds = tt }

pub returns-in_err-check_packets : goal.returns-in_err-check_packets
returns-in_err-check_packets c =
    let p = err_from_is_err_and c.from_residual-in_err-check_packets.result c.from_residual-in_err-check_packets.ensures.1 in
    let v = refused_packets _ _ (read_header _ _ c.in_ok-header.ensures) _ c.in_err-check_packets.ensures in
    rw (p.1, p.2) record { verdict = v; law = law_at _ _ v; bytes = tt; holds = tt }

pub returns-in_err-check_symbols : goal.returns-in_err-check_symbols
returns-in_err-check_symbols c =
    let p = err_from_is_err_and c.from_residual-in_err-check_symbols.result c.from_residual-in_err-check_symbols.ensures.1 in
    let v = refused_symbols _ _ (read_header _ _ c.in_ok-header.ensures) c.in_ok-check_packets.ensures _ c.in_err-check_symbols.ensures in
    rw (p.1, p.2) record { verdict = v; law = law_at _ _ v; bytes = tt; holds = tt }

pub invariant_of-result : goal.invariant_of-result
invariant_of-result c =
    let read = read_header _ _ c.in_ok-header.ensures in
    record { read = read.is; sound = all_checked _ _ read c.in_ok-check_packets.ensures c.in_ok-check_symbols.ensures }

pub returns : goal.returns
returns c =
    let read = read_header _ _ c.in_ok-header.ensures in
    let v = opened _ _ read (all_checked _ _ read c.in_ok-check_packets.ensures c.in_ok-check_symbols.ensures) in
    record { verdict = v; law = law_at _ _ v; bytes = refl; holds = λ number. ap (λ (g : FileHeader). holding g.subscription (entries c.args.bytes.now) number) read.is }
