use Rattle.std.proofs.Common.{◌≡◌, ◌++◌, map, take, drop}
use Rattle.runs.specs.Watching.{renewed}
use Rattle.slots.specs.Slots.{watchings}
use Rattle.slots.proofs.taking.renew_all.Given as goal

abbrev pub invariant-loop-slot : goal.invariant-loop-slot
invariant-loop-slot g l =
    let k = g.K.Kind in
    watchings k.shows l.slots ≡ map (renewed k.meaning) (take l.slot-index (watchings k.shows l.initial.slots)) ++ drop l.slot-index (watchings k.shows l.initial.slots)
