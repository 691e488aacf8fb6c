use Rattle.std.proofs.Common.{rules, arith}
use Rattle.std.proofs.lemmas.Grind.{common_steps}
use Rattle.messages.proofs.Lists.{found}
use Rattle.messages.proofs.symbol.first_bad.Goals as goal

pub returns : goal.returns
returns c = found c.args.symbols.now c.position.result (search rules) (λ k is. search rules) (λ k is i below. search rules) (λ k is. grind (arith, common_steps))
