use Rattle.std.proofs.Common.{[], ◌++◌, ap, ◌∙◌, append-nil, arith}
use Rattle.encode.specs.Encode.{header_bytes}
use Rattle.encode.proofs.Packets.{heartbeat_put}
use Rattle.encode.proofs.packet.write_heartbeat.Goals as goal

pub returns : goal.returns
returns c =
    let header = c.header_bytes-header.result in
    let is = append-nil (header ++ []) ∙ append-nil header ∙ c.header_bytes-header.ensures.bytes ∙ ap (λ k. header_bytes 8 k c.args.subscription c.args.number) c.from.ensures in
    heartbeat_put c.args.subscription c.args.number c.args.out.now _ (header ++ [] ++ []) _ (omega arith) is c.put_parts.ensures.answer c.put_parts.ensures.after
