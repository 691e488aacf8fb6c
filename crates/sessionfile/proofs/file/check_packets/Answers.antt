use Rattle.std.proofs.Common.{length, sym, inl, ap, arith}
use Rattle.std.proofs.lemmas.Iterator.Consumers.{YieldsList-from_first, count_from_yields_List}
use Rattle.std.specs.Option.{option_map}
use Rattle.codes.specs.Refusals.{placed}
use Rattle.sessionfile.specs.Entries.{pending}
use Rattle.sessionfile.proofs.Tables.{length-readable, packets_at_fault, packets_sound}
use Rattle.sessionfile.proofs.file.check_packets.Goals as goal

pub count-good-requires-clause-fits : goal.count-good-requires-clause-fits
count-good-requires-clause-fits c = inl (omega (arith, ap length c.new.ensures, length-readable c.args.bytes.now c.args.header.offsets 0 c.args.header.packets))

pub returns-then-good-header : goal.returns-then-good-header
returns-then-good-header c =
    let counted = count_from_yields_List _ _ c.count-good.ensures.ran (YieldsList-from_first (λ x. x.now) pending _ c.new.ensures) in
    sym (ap (option_map (placed 13)) (packets_at_fault _ _ _ _ counted c.if-good-header.true))

pub returns : goal.returns
returns c =
    let counted = count_from_yields_List _ _ c.count-good.ensures.ran (YieldsList-from_first (λ x. x.now) pending _ c.new.ensures) in
    sym (ap (option_map (placed 13)) (packets_sound _ _ _ _ counted c.if-good-header.false))
