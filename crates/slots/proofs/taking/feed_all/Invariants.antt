use Rattle.std.proofs.Common.{◌≡◌, ◌+◌, ◌≤◌}
use Rattle.feed.specs.Pending.{pending, bytes_left}
use Rattle.runs.specs.States.{contents_of}
use Rattle.runs.specs.Watching.{fed, moved}
use Rattle.slots.specs.Slots.{watchings}
use Rattle.slots.proofs.taking.feed_all.Given as goal

-- the messages that are left give the rest
abbrev pub invariant-loop-item : goal.invariant-loop-item
invariant-loop-item g l =
    let k = g.K.Kind in
    let is = watchings k.shows l.slots in
    let was = watchings k.shows l.initial.slots in
    let left = contents_of (pending l.item-iterator) in
    let all = contents_of (pending l.initial.item-iterator) in
    (goal.iterator-loop-item g).can_next l.item-iterator × (goal.iterator-loop-item g).is_finite l.item-iterator
    × (l.moved + bytes_left l.item-iterator ≤ bytes_left l.initial.item-iterator)
    × (fed k.meaning is left ≡ fed k.meaning was all)
    × (l.moved + moved k.meaning is left ≡ moved k.meaning was all)
