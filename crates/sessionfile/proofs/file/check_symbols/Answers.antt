use Rattle.std.proofs.Common.{length, sym, ap, ◌∙◌}
use Rattle.std.specs.Option.{option_map, unwrap_or}
use Rattle.codes.specs.Refusals.{placed}
use Rattle.sessionfile.proofs.Tables.{symbols_at_fault, symbols_sound}
use Rattle.sessionfile.proofs.file.check_symbols.Goals as goal

pub returns-then-good-header : goal.returns-then-good-header
returns-then-good-header c =
    let h = c.args.header in
    let symbols = c.symbols_inside-symbols.result.now in
    let good = c.unwrap_or-good in
    sym (ap (option_map (placed 13)) (symbols_at_fault c.args.bytes.now h.names h.symbols symbols c.symbols_inside-symbols.ensures good.result (good.ensures ∙ ap (λ o. unwrap_or o (length symbols)) c.first_bad.ensures) c.if-good-header.true))

pub returns : goal.returns
returns c =
    let h = c.args.header in
    let symbols = c.symbols_inside-symbols.result.now in
    let good = c.unwrap_or-good in
    sym (ap (option_map (placed 13)) (symbols_sound c.args.bytes.now h.names h.symbols symbols c.symbols_inside-symbols.ensures good.result (good.ensures ∙ ap (λ o. unwrap_or o (length symbols)) c.first_bad.ensures) c.if-good-header.false))
