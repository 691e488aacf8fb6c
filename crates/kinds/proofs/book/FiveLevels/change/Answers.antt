use Rattle.std.proofs.Common.{rules}
use Rattle.kinds.proofs.Changes.{laws}
use Rattle.kinds.proofs.book.FiveLevels.change.Goals as goal

pub returns-clause-laws : goal.returns-clause-laws
returns-clause-laws c = search (rules, laws, c.insert.ensures, c.remove.ensures.four)
