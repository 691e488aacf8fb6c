-- What slots mean.
use Rattle.std.specs.Prelude.{ℕ, List, map, Option, position}
use Rattle.std.specs.Str.{bytes_eq}
use Rattle.runs.specs.Watching.{Watched}
use Rattle.slots.specs.declared.slot.Slot.{Slot}

-- a slot by what its record shows
abbrev pub watching : {R : Type 0} → (R → List ℕ) → Slot R → Watched
watching shows s = record { symbol = s.symbol; slot = record { kept = record { shown = shows s.kept.«record»; last = s.kept.last }; seen = s.seen } }

abbrev pub watchings : {R : Type 0} → (R → List ℕ) → List (Slot R) → List Watched
watchings shows ss = map (watching shows) ss

-- the place of the first slot of a symbol
abbrev pub place : {R : Type 0} → List ℕ → List (Slot R) → Option ℕ
place {R} symbol ss = position (λ (s : Slot R). bytes_eq s.symbol symbol) ss
