use Rattle.std.proofs.Common.{◌++◌, sym}
use Rattle.encode.proofs.Writes.{wrote_refused, wrote_put}
use Rattle.encode.proofs.message.write_fields.Goals as goal

pub returns-then-not-is_writable : goal.returns-then-not-is_writable
returns-then-not-is_writable g c = wrote_refused c.args.subscription (g.F.Written.content c.args.fields.now) c.args.out.now (sym c.if-not-is_writable.ensures)

pub returns : goal.returns
returns g c =
    let parts = c.parts-tail.result in
    let own = parts.header ++ parts.named ++ parts.tail in
    wrote_put c.args.subscription (g.F.Written.content c.args.fields.now) c.args.out.now own _ _ c.parts-tail.ensures.typed (sym c.if-not-is_writable.ensures) c.parts-tail.ensures.bytes c.put_parts.ensures.answer c.put_parts.ensures.after
