use Rattle.std.proofs.Common.{ℕ, ◌+◌, List, [], ◌++◌, length, Some, None, sym, ap, ◌∙◌, append-nil, arith}
use Rattle.std.proofs.lemmas.Result.{err_from_is_err_and}
use Rattle.codes.specs.Refusals.{returned}
use Rattle.encode.specs.Encode.{header_bytes}
use Rattle.encode.proofs.Packets.{packet_refused, packet_put, fault_length, fault_number, fault_messages}
use Rattle.encode.proofs.packet.write_packet.Goals as goal

pub returns-then-messages : goal.returns-then-messages
returns-then-messages c = packet_refused _ _ _ _ _ (fault_length _ _ _ (omega arith))

pub returns-then-not-in_range : goal.returns-then-not-in_range
returns-then-not-in_range c = packet_refused _ _ _ _ _ (fault_number _ _ _ (omega arith) (sym c.if-not-in_range.ensures))

pub returns-in_err-check_messages : goal.returns-in_err-check_messages
returns-in_err-check_messages c =
    let p = err_from_is_err_and c.from_residual.result c.from_residual.ensures.1 in
    rw (p.1, p.2) (packet_refused _ _ _ _ _ (fault_messages _ _ _ (omega arith) (Some (returned c.in_err-check_messages.field-0.0)) (sym c.if-not-in_range.ensures) c.in_err-check_messages.ensures))

pub returns : goal.returns
returns c =
    let sub = c.args.subscription in
    let number = c.args.number in
    let messages = c.args.messages.now in
    let header = c.header_bytes-header.result in
    let is = append-nil (header ++ messages) ∙ ap (λ (h : List ℕ). h ++ messages) (c.header_bytes-header.ensures.bytes ∙ ap (λ k. header_bytes (8 + length messages) k sub number) c.from.ensures) in
    packet_put sub number messages c.args.out.now _ (header ++ messages ++ []) _ (fault_messages sub number messages (omega arith) None (sym c.if-not-in_range.ensures) c.in_ok-check_messages.ensures) is c.put_parts.ensures.answer c.put_parts.ensures.after
