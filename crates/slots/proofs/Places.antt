-- The place of a series' slot, and what an offer does there.
use Rattle.std.proofs.Common.{◌≡◌, ℕ, zero, suc, ◌+◌, ◌<◌, ◌≤◌, min, Bool, true, false, cond, List, [], ◌∷◌, ◌++◌, map, length, get_or, take, drop, set, Some, None, Ok, Err, sym, refl, ap, ◌∙◌, arith}
use Rattle.std.specs.Str.{bytes_eq}
use Rattle.std.specs.List.{position_or_len}
use Rattle.std.proofs.lemmas.Grind.{common_steps}
use Rattle.std.proofs.lemmas.List.Quantifiers.{position-Some}
use Rattle.std.proofs.lemmas.List.Sums.{fails_before_first}
use Rattle.std.proofs.lemmas.List.{map-set, get_or-map, length-map, take_all, drop_all, append-nil}
use Rattle.std.proofs.lemmas.List.Edits.{map_over_more}
use Rattle.std.proofs.lemmas.Bool.{cond-true, cond-false}
use Rattle.codes.specs.Refusals.{alone}
use Rattle.kinds.specs.Meaning.{Meaning}
use Rattle.runs.specs.Taking.{Numbered, takes, taken}
use Rattle.runs.proofs.Openings.{named_from, named_more, named_past}
use Rattle.runs.specs.States.{view, view_of}
use Rattle.runs.specs.Watching.{Watched, renewed, offered, moves}
use Rattle.slots.specs.Slots.{watching, watchings, place}
use Rattle.slots.specs.declared.slot.Slot.{Slot}

-- A place is the first one of its series.
module _ {R : Type 0} (x : List ℕ) where
  abbrev is_of : Slot R → Bool
  is_of s = bytes_eq s.symbol x

  -- the one at a place, and those before it
  abbrev First : List (Slot R) → ℕ → Slot R → Type 0
  First xs i d = (i < length xs) × (is_of (get_or xs i d) ≡ true) × ((k : ℕ) → k < i → is_of (get_or xs k d) ≡ false)

  placed : (xs : List (Slot R)) (i : ℕ) (d : Slot R) → Some i ≡ place x xs → First xs i d
  placed xs i d e = position-Some is_of xs i d (sym e)

  next : (z : Slot R) (zs : List (Slot R)) (i : ℕ) (d : Slot R) → First (z ∷ zs) (suc i) d → First zs i d
  next z zs i d h = (omega arith, h.1, λ k lt. h.2 (suc k) (omega arith))

  unplaced : (xs : List (Slot R)) → None ≡ place x xs → (k : ℕ) (d : Slot R) → k < length xs → is_of (get_or xs k d) ≡ false
  unplaced xs e k d lt =
      let past : length xs ≤ position_or_len is_of xs = grind (arith, common_steps) in
      fails_before_first is_of xs k d (omega arith)

-- what is found of the first slot of a series
module _ {R B : Type 0} (x : List ℕ) (of_slot : Slot R → B) (found : List (Slot R) → B)
    (first : (z : Slot R) (zs : List (Slot R)) → found (z ∷ zs) ≡ cond (bytes_eq z.symbol x) (of_slot z) (found zs)) where
  found_there : (xs : List (Slot R)) (i : ℕ) (d : Slot R) → First x xs i d → of_slot (get_or xs i d) ≡ found xs
  found_there [] i d h = absurd (omega (arith, h.0))
  found_there (z ∷ zs) zero d h = sym (first z zs ∙ cond-true _ _ _ h.1)
  found_there (z ∷ zs) (suc i) d h = found_there zs i d (next x z zs i d h) ∙ sym (first z zs ∙ cond-false _ _ _ (h.2 0 (omega arith)))

  pub found_at : (xs : List (Slot R)) (i : ℕ) (d : Slot R) → Some i ≡ place x xs → of_slot (get_or xs i d) ≡ found xs
  found_at xs i d e = found_there xs i d (placed x xs i d e)

  not_there : (xs : List (Slot R)) → ((k : ℕ) (d : Slot R) → k < length xs → bytes_eq (get_or xs k d).symbol x ≡ false) → found [] ≡ found xs
  not_there [] h = refl
  not_there (z ∷ zs) h = not_there zs (λ k d lt. h (suc k) d (omega arith)) ∙ sym (first z zs ∙ cond-false _ _ _ (h 0 z (omega arith)))

  pub found_none : (xs : List (Slot R)) → None ≡ place x xs → found [] ≡ found xs
  found_none xs e = not_there xs (unplaced x xs e)

module _ {R : Type 0} (shows : R → List ℕ) (K : Meaning) (m : Numbered) where
  -- a slot after the message
  abbrev after : Slot R → Watched
  after s = record { symbol = s.symbol; slot = taken K (watching shows s).slot m }

  offered_there : (xs : List (Slot R)) (i : ℕ) (d y : Slot R) → First m.symbol xs i d → watching shows y ≡ after (get_or xs i d) → watchings shows (set xs i y) ≡ offered K m (watchings shows xs)
  offered_there [] i d y h is = absurd (omega (arith, h.0))
  offered_there (z ∷ zs) zero d y h is = ap (λ w. w ∷ watchings shows zs) is ∙ sym (cond-true _ _ _ h.1)
  offered_there (z ∷ zs) (suc i) d y h is =
      ap (λ ws. watching shows z ∷ ws) (offered_there zs i d y (next m.symbol z zs i d h) is) ∙ sym (cond-false _ _ _ (h.2 0 (omega arith)))

  -- the slot at the series' place takes the message
  pub offered_at : (xs : List (Slot R)) (i : ℕ) (d y : Slot R) → Some i ≡ place m.symbol xs → watching shows y ≡ after (get_or xs i d) → watchings shows (set xs i y) ≡ offered K m (watchings shows xs)
  offered_at xs i d y e is = offered_there xs i d y (placed m.symbol xs i d e) is

  pub moves_at : (xs : List (Slot R)) (i : ℕ) (d : Slot R) → Some i ≡ place m.symbol xs → takes K (get_or xs i d).kept.last m ≡ moves K m (watchings shows xs)
  moves_at xs i d e = found_at m.symbol (λ s. takes K s.kept.last m) (λ ss. moves K m (watchings shows ss)) (λ z zs. refl) xs i d e

  -- an unwatched series
  not_offered : (xs : List (Slot R)) → ((k : ℕ) (d : Slot R) → k < length xs → bytes_eq (get_or xs k d).symbol m.symbol ≡ false) → watchings shows xs ≡ offered K m (watchings shows xs)
  not_offered [] h = refl
  not_offered (z ∷ zs) h = ap (λ ws. watching shows z ∷ ws) (not_offered zs (λ k d lt. h (suc k) d (omega arith))) ∙ sym (cond-false _ _ _ (h 0 z (omega arith)))

  pub offered_none : (xs : List (Slot R)) → None ≡ place m.symbol xs → watchings shows xs ≡ offered K m (watchings shows xs)
  offered_none xs e = not_offered xs (unplaced m.symbol xs e)

  pub moves_none : (xs : List (Slot R)) → None ≡ place m.symbol xs → false ≡ moves K m (watchings shows xs)
  moves_none xs e = found_none m.symbol (λ s. takes K s.kept.last m) (λ ss. moves K m (watchings shows ss)) (λ z zs. refl) xs e

-- a look at the series' place, and at none
module _ {R : Type 0} (shows : R → List ℕ) (x : List ℕ) (xs : List (Slot R)) where
  pub viewed_at : (i : ℕ) (d : Slot R) → d ≡ get_or xs i d → Some i ≡ place x xs → Ok (view (watching shows d).slot) ≡ view_of x (watchings shows xs)
  viewed_at i d is e =
      ap (λ s. Ok (view (watching shows s).slot)) is ∙ found_at x (λ s. Ok (view (watching shows s).slot)) (λ ss. view_of x (watchings shows ss)) (λ z zs. refl) xs i d e

  pub viewed_none : None ≡ place x xs → Err (alone 11) ≡ view_of x (watchings shows xs)
  viewed_none e = found_none x (λ s. Ok (view (watching shows s).slot)) (λ ss. view_of x (watchings shows ss)) (λ z zs. refl) xs e

-- slots made fresh one after another
module _ {R : Type 0} (shows : R → List ℕ) (K : Meaning) (xs ys : List (Slot R)) (i : ℕ)
    (so_far : watchings shows ys ≡ map (renewed K) (take i (watchings shows xs)) ++ drop i (watchings shows xs)) where
  pub renew_on : (d y : Slot R) → i < length xs → length ys ≡ length xs → watching shows y ≡ renewed K (watching shows (get_or ys i d)) →
      watchings shows (set ys i y) ≡ map (renewed K) (take (i + 1) (watchings shows xs)) ++ drop (i + 1) (watchings shows xs)
  renew_on d y lt long h =
      let w = watching shows (get_or ys i d) in
      let few : i < length (watchings shows xs) = omega (arith, length-map xs (watching shows)) in
      map-set (watching shows) ys i y ∙ ap (set (watchings shows ys) i) h
      ∙ map_over_more (renewed K) (watchings shows xs) (watchings shows ys) i w few so_far (sym (get_or-map (watching shows) ys i d w (omega arith)))

  pub renew_end : length xs ≤ i → watchings shows ys ≡ map (renewed K) (watchings shows xs)
  renew_end past =
      let all : length (watchings shows xs) ≤ i = omega (arith, length-map xs (watching shows)) in
      rw (take_all i (watchings shows xs) all, drop_all i (watchings shows xs) all, append-nil (map (renewed K) (watchings shows xs))) at so_far

-- slots named one after another
module _ {R : Type 0} (shows : R → List ℕ) (ss : List (Slot R)) (xs : List (List ℕ)) (i : ℕ) (all : List Watched) (so_far : named_from (watchings shows ss) xs i ≡ all) where
  pub name_on : (d y : Slot R) (s : List ℕ) → i < length ss → i < length xs → watching shows y ≡ record { symbol = get_or xs i s; slot = (watching shows (get_or ss i d)).slot } → named_from (watchings shows (set ss i y)) xs (i + 1) ≡ all
  name_on d y s lt few h =
      let w = watching shows (get_or ss i d) in
      let long : i < length (watchings shows ss) = omega (arith, length-map ss (watching shows)) in
      let here = get_or-map (watching shows) ss i d w lt in
      ap (λ ws. named_from ws xs (i + 1)) (map-set (watching shows) ss i y)
      ∙ named_more (watchings shows ss) xs i w (watching shows y) s long few (h ∙ ap (λ (v : Watched). record { symbol = get_or xs i s; slot = v.slot }) (sym here))
      ∙ so_far

  pub name_end : min (length ss) (length xs) ≤ i → watchings shows ss ≡ all
  name_end past =
      let none : min (length (watchings shows ss)) (length xs) ≤ i = omega (arith, length-map ss (watching shows)) in
      sym (named_past (watchings shows ss) xs i none) ∙ so_far
