-- Watched series, and what the messages of a packet do to them.
use Rattle.std.specs.Prelude.{ℕ, ◌+◌, Bool, false, cond, List, [], ◌∷◌, Some, None, Option}
use Rattle.std.specs.Str.{bytes_eq}
use Rattle.messages.specs.Content.{Content}
use Rattle.kinds.specs.Meaning.{Meaning}
use Rattle.runs.specs.Taking.{Numbered, Slot, numbered, fresh, takes, taken}

-- a watched series with its slot
pub record Watched : Type 0 where
  pub symbol : List ℕ
  pub slot : Slot

abbrev pub renewed : Meaning → Watched → Watched
renewed K w = record { symbol = w.symbol; slot = fresh K }

-- the slots get their symbols, as far as both go
abbrev pub named : List Watched → List (List ℕ) → List Watched
named [] symbols = []
named (w ∷ ws) [] = w ∷ ws
named (w ∷ ws) (s ∷ ss) = record { symbol = s; slot = w.slot } ∷ named ws ss

-- a message goes to the first slot of its series
abbrev pub offered : Meaning → Numbered → List Watched → List Watched
offered K m [] = []
offered K m (w ∷ ws) = cond (bytes_eq w.symbol m.symbol) (record { symbol = w.symbol; slot = taken K w.slot m } ∷ ws) (w ∷ offered K m ws)

-- whether that moves a last number
abbrev pub moves : Meaning → Numbered → List Watched → Bool
moves K m [] = false
moves K m (w ∷ ws) = cond (bytes_eq w.symbol m.symbol) (takes K w.slot.kept.last m) (moves K m ws)

abbrev pub offered_if : Meaning → Option Numbered → List Watched → List Watched
offered_if K (Some m) ws = offered K m ws
offered_if K None ws = ws

abbrev pub moves_if : Meaning → Option Numbered → List Watched → Bool
moves_if K (Some m) ws = moves K m ws
moves_if K None ws = false

-- messages in order
abbrev pub fed : Meaning → List Watched → List Content → List Watched
fed K ws [] = ws
fed K ws (c ∷ cs) = fed K (offered_if K (numbered c) ws) cs

-- how many of them move a last number
abbrev pub moved : Meaning → List Watched → List Content → ℕ
moved K ws [] = 0
moved K ws (c ∷ cs) = cond (moves_if K (numbered c) ws) 1 0 + moved K (offered_if K (numbered c) ws) cs
