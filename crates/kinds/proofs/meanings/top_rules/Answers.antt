use Rattle.std.proofs.Common.{refl}
use Rattle.kinds.proofs.Rules.{top_rules}
use Rattle.kinds.proofs.meanings.top_rules.Goals as goal

pub returns : goal.returns
returns c = record { meaning = top_rules; shows = λ b. refl }
