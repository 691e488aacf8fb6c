-- Slots that get their symbols one after another.
use Rattle.std.proofs.Common.{◌≡◌, ℕ, ◌+◌, ◌<◌, ◌≤◌, min, List, [], ◌∷◌, ◌++◌, length, get_or, take, drop, set, sym, refl, ap, ◌∙◌, ap₂, ⊎_elim, append_assoc, arith, take-append-drop}
use Rattle.std.proofs.lemmas.Bool.{cases_lt}
use Rattle.std.proofs.lemmas.List.{drop_more, take_more_set, drop-set-lt, drop_all}
use Rattle.runs.specs.Watching.{Watched, named}

named_nil : (ws : List Watched) → named ws [] ≡ ws
named_nil [] = refl
named_nil (w ∷ ws) = refl

module _ (ws : List Watched) (xs : List (List ℕ)) (i : ℕ) where
  -- what is named, and what the rest will be
  abbrev pub named_from : List Watched
  named_from = take i ws ++ named (drop i ws) (drop i xs)

  pub named_more : (d w : Watched) (s : List ℕ) → i < length ws → i < length xs → w ≡ record { symbol = get_or xs i s; slot = (get_or ws i d).slot } → take (i + 1) (set ws i w) ++ named (drop (i + 1) (set ws i w)) (drop (i + 1) xs) ≡ named_from
  named_more d w s lt few is =
      let rest = named (drop (i + 1) ws) (drop (i + 1) xs) in
      let here : named (drop i ws) (drop i xs) ≡ w ∷ rest = ap₂ named (drop_more ws i d lt) (drop_more xs i s few) ∙ ap (λ z. z ∷ rest) (sym is) in
      ap₂ (λ a b. a ++ named b (drop (i + 1) xs)) (take_more_set ws i w lt) (drop-set-lt (i + 1) ws i w (omega arith))
      ∙ append_assoc (take i ws) (w ∷ []) rest ∙ ap (λ l. take i ws ++ l) (sym here)

  named_short : length ws ≤ i → named_from ≡ ws
  named_short past =
      let none : drop i ws ≡ [] = drop_all i ws past in
      ap (λ l. take i ws ++ l) (ap (λ l. named l (drop i xs)) none ∙ sym none) ∙ take-append-drop i ws

  named_all : length xs ≤ i → named_from ≡ ws
  named_all past = ap (λ l. take i ws ++ l) (ap (named (drop i ws)) (drop_all i xs past) ∙ named_nil (drop i ws)) ∙ take-append-drop i ws

  -- nothing is left to name
  pub named_past : min (length ws) (length xs) ≤ i → named_from ≡ ws
  named_past past = ⊎_elim (λ few. named_short (omega arith)) (λ many. named_all (omega arith)) (cases_lt i (length xs))
