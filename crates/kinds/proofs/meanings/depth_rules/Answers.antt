use Rattle.std.proofs.Common.{refl}
use Rattle.kinds.proofs.Rules.{depth_rules, level_rules}
use Rattle.kinds.proofs.meanings.depth_rules.Goals as goal

pub returns : goal.returns
returns c = record { meaning = depth_rules; levels = level_rules; shows = λ b. refl }
