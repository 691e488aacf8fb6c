-- Which lists of symbols can be watched.
use Rattle.std.specs.Prelude.{ℕ, cond, List, [], length, Some, None, Option, ◌==◌, nat_lt}
use Rattle.std.specs.Option.{option_map}
use Rattle.codes.specs.Refusals.{Returned, placed}
use Rattle.messages.specs.Symbols.{bad_from}
use Rattle.runs.specs.Verdicts.{or_else}

-- 10 with an index, in this order: over 1,024 symbols, a bad symbol, slots not as many
abbrev pub watch_fault : List (List ℕ) → (slots : ℕ) → Option Returned
watch_fault symbols slots =
    cond (nat_lt 1024 (length symbols)) (Some (placed 10 1024))
    (or_else (option_map (placed 10) (bad_from [] 0 symbols)) (cond (slots == length symbols) None (Some (placed 10 0))))
