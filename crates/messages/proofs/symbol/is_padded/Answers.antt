use Rattle.std.proofs.Common.{eqb, drop, ap, ◌∙◌}
use Rattle.std.proofs.lemmas.List.{take_rest}
use Rattle.std.specs.List.{list_all}
use Rattle.messages.proofs.Symbols.{padded_past_name}
use Rattle.messages.proofs.symbol.is_padded.Goals as goal

pub returns : goal.returns
returns c =
    let field = c.args.field.now in
    c.are_null.ensures ∙ ap (list_all (λ b. eqb b 0)) (take_rest field c.name_length.result ∙ ap (λ n. drop n field) c.name_length.ensures) ∙ padded_past_name field
