use Rattle.std.proofs.Common.{sym, refl, ap, ◌∙◌}
use Rattle.std.proofs.lemmas.Result.{err_from_is_err_and}
use Rattle.feed.specs.Packets.{packet_verdict}
use Rattle.feed.proofs.Agreements.{packets_at, heartbeats_at, verdict_refused, verdict_body}
use Rattle.feed.proofs.packet.Packet.read.Goals as goal

pub returns-in_err-header : goal.returns-in_err-header
returns-in_err-header c =
    let p = err_from_is_err_and c.from_residual.result c.from_residual.ensures.1 in
    let v = verdict_refused _ _ _ c.in_err-header.ensures.verdict in
    rw (p.1, p.2) record { verdict = v; packets = packets_at _ _ _ v; heartbeats = heartbeats_at _ _ _ v; bytes = tt }

pub returns-then-not-is_good_body : goal.returns-then-not-is_good_body
returns-then-not-is_good_body c =
    let v = verdict_body _ _ _ _ c.in_ok-header.ensures.verdict c.if-not-is_good_body.ensures in
    record { verdict = v; packets = packets_at _ _ _ v; heartbeats = heartbeats_at _ _ _ v; bytes = tt }

pub returns : goal.returns
returns c =
    let v = verdict_body _ _ _ _ c.in_ok-header.ensures.verdict c.if-not-is_good_body.ensures in
    record { verdict = v; packets = packets_at _ _ _ v; heartbeats = heartbeats_at _ _ _ v; bytes = refl }

pub invariant_of-result : goal.invariant_of-result
invariant_of-result c =
    let v = verdict_body _ _ _ _ c.in_ok-header.ensures.verdict c.if-not-is_good_body.ensures in
    record { good = ap (λ s. packet_verdict s c.args.bytes.now) c.in_ok-header.ensures.own ∙ sym v }
