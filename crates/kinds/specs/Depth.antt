-- Depth, a kind of book with five levels on each side: ten numbers.
use Rattle.std.specs.Prelude.{ℕ, Bool, true, List}
use Rattle.codes.specs.Codes.{level_number}
use Rattle.messages.specs.declared.fields.QuoteFields.{QuoteFields}
use Rattle.kinds.specs.Levels.{moved, numbers, levels_in, new_level}

-- every quote is of a level that is kept
abbrev pub every : QuoteFields → Bool
every q = true

-- a side after a quote
abbrev pub side_after : QuoteFields → List ℕ → List ℕ
side_after q ns = numbers (moved (level_number q.delete) (level_number q.insert) (new_level q) (levels_in ns))
