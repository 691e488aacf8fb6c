use Rattle.std.proofs.Common.{◌≡◌}
use Rattle.runs.specs.Watching.{named}
use Rattle.runs.proofs.Openings.{named_from}
use Rattle.slots.specs.Slots.{watchings}
use Rattle.slots.proofs.opening.name_all.Given as goal

abbrev pub invariant-loop-i : goal.invariant-loop-i
invariant-loop-i g l =
    let k = g.K.Kind in
    named_from (watchings k.shows l.slots) l.symbols l.i ≡ named (watchings k.shows l.initial.slots) l.symbols
