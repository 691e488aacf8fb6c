use Rattle.std.proofs.Common.{◌≡◌}
use Rattle.feed.specs.Pending.{pending}
use Rattle.runs.specs.Verdicts.{fault}
use Rattle.session.proofs.check.check.Given as goal

-- the messages that are left give the fault
abbrev pub invariant-loop-item : goal.invariant-loop-item
invariant-loop-item g l =
    let k = g.K.Kind in
    (goal.iterator-loop-item g).can_next l.item-iterator × (goal.iterator-loop-item g).is_finite l.item-iterator
    × (fault k.meaning l.header.number (pending l.item-iterator) ≡ fault k.meaning l.header.number (pending l.initial.item-iterator))
