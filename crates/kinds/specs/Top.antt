-- Top, a kind of book with the best level of each side: two numbers.
use Rattle.std.specs.Prelude.{ℕ, Bool, ◌&&◌, List, ◌==◌}
use Rattle.codes.specs.Codes.{level_number}
use Rattle.messages.specs.declared.fields.QuoteFields.{QuoteFields}
use Rattle.kinds.specs.Levels.{level_shown, new_level}

-- both levels are 1
abbrev pub of_top : QuoteFields → Bool
of_top q = level_number q.insert == 1 && level_number q.delete == 1

-- the side is the level of the quote, whatever it was
abbrev pub best_after : QuoteFields → List ℕ → List ℕ
best_after q old = level_shown (new_level q)
