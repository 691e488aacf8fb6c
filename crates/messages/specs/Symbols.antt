-- A symbol's field: printable bytes, at least one, and then nulls to its end. Of a list of them, the first at fault.
use Rattle.std.specs.Prelude.{ℕ, suc, Bool, true, false, cond, not, ◌&&◌, List, [], ◌∷◌, ◌++◌, Option, None, Some, ◌==◌, nat_le}
use Rattle.std.specs.List.{list_any}
use Rattle.std.specs.Str.{bytes_eq}

abbrev pub printable : ℕ → Bool
printable byte = nat_le 33 byte && nat_le byte 126

abbrev pub nulls : List ℕ → Bool
nulls [] = true
nulls (b ∷ bs) = b == 0 && nulls bs

abbrev pub padded : List ℕ → Bool
padded [] = true
padded (b ∷ bs) = cond (printable b) (padded bs) (nulls (b ∷ bs))

abbrev pub well_formed : List ℕ → Bool
well_formed [] = false
well_formed (b ∷ bs) = printable b && padded bs

abbrev pub among : List ℕ → List (List ℕ) → Bool
among symbol symbols = list_any (λ s. bytes_eq s symbol) symbols

-- the index of the first symbol that is malformed or stands before it too, where the symbols before are given
abbrev pub bad_from : (before : List (List ℕ)) → ℕ → List (List ℕ) → Option ℕ
bad_from before i [] = None
bad_from before i (s ∷ ss) = cond (well_formed s && not (among s before)) (bad_from (before ++ (s ∷ [])) (suc i) ss) (Some i)
