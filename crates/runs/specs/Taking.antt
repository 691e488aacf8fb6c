-- Numbered messages, and how a series takes them.
use Rattle.std.specs.Prelude.{ℕ, suc, max, Bool, cond, ◌&&◌, ◌||◌, List, Option, ◌==◌, nat_lt}
use Rattle.std.specs.Option.{option_map}
use Rattle.messages.specs.Content.{Content, name_in}
use Rattle.kinds.specs.Meaning.{Meaning}

-- a message of a series, with its number there
pub record Numbered : Type 0 where
  pub symbol : List ℕ
  pub number : ℕ
  pub content : Content

-- which series a message is of, and its number there; an event of an underlying and the reset are of no series
abbrev pub numbered : Content → Option Numbered
numbered c = option_map (λ name. record { symbol = name.1; number = name.0; content = c }) (name_in c)

-- a record, and the number of the last message taken into it
pub record Kept : Type 0 where
  pub shown : List ℕ
  pub last : ℕ

-- what is kept of a series, and the highest number of it that was seen
pub record Slot : Type 0 where
  pub kept : Kept
  pub seen : ℕ

-- before its first message
abbrev pub fresh : Meaning → Slot
fresh K = record { kept = record { shown = K.empty; last = 0 }; seen = 0 }

-- The message after the last one is taken, and a later one that settles; one up to the last is not.
abbrev pub takes : Meaning → ℕ → Numbered → Bool
takes K last m = m.number == suc last || (nat_lt (suc last) m.number && K.settles m.content)

abbrev pub taken_into : Meaning → Kept → Numbered → Kept
taken_into K k m = cond (takes K k.last m) (record { shown = K.step k.shown m.content; last = m.number }) k

abbrev pub taken : Meaning → Slot → Numbered → Slot
taken K s m = record { kept = taken_into K s.kept m; seen = max s.seen m.number }

-- stale while a higher number was seen than the last taken, else current
abbrev pub stale : Slot → Bool
stale s = nat_lt s.kept.last s.seen
