use Rattle.std.proofs.Common.{refl}
use Rattle.kinds.proofs.Rules.{imbalance_rules}
use Rattle.kinds.proofs.meanings.imbalance_rules.Goals as goal

pub returns : goal.returns
returns c = record { meaning = imbalance_rules; none = λ r e. rw (e) refl; shows = λ r a e. rw (e) refl }
