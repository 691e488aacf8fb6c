use Rattle.std.proofs.Common.{refl, arith}
use Rattle.sessionfile.proofs.Tables.{rest_from, chunks_inside}
use Rattle.sessionfile.proofs.file.symbols_inside.Goals as goal

pub returns : goal.returns
returns c =
    let h = c.args.header in
    let rest = c.unwrap_or.result in
    chunks_inside c.args.bytes.now h.names h.symbols c.min-inside.result rest.now c.as_chunks.result.0.now (rest_from c.args.bytes.now h.names c.get.result rest _ c.get.ensures.lookup refl c.unwrap_or.ensures) c.as_chunks.ensures.front (omega (arith, c.as_chunks.ensures.front_len))
