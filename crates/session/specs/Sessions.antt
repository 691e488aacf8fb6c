-- What a session means, and what its calls answer.
use Rattle.std.specs.Prelude.{ℕ, Bool, true, false, List}
use Rattle.runs.specs.States.{State, View}
use Rattle.slots.specs.Slots.{watchings}
use Rattle.session.specs.declared.session.Session.{Session}
use Rattle.session.specs.declared.session.Look.{Look}
use Rattle.session.specs.declared.session.Mark.{Mark}
use Rattle.session.specs.declared.session.Mark.TheVariants.{Current, Stale}

abbrev pub state : {K R : Type 0} → (R → List ℕ) → Session K R → State
state shows s = record { subscription = s.subscription; stamp = s.stamp; next = s.progress.next; top = s.progress.top; slots = watchings shows s.slots.now }

-- stale, or current
abbrev pub is_stale : Mark → Bool
is_stale Stale = true
is_stale Current = false

abbrev pub seen_by : {R : Type 0} → (R → List ℕ) → Look R → View
seen_by shows l = record { shown = shows l.«record».now; last = l.last; mark = is_stale l.mark }
