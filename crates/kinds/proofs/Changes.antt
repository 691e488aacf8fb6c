-- What a change means for each level of a side.
use Rattle.std.proofs.Common.{◌≡◌, ℕ, zero, suc, ◌+◌, ◌<◌, ◌≤◌, false, eqb, List, [], ◌∷◌, length, Some, refl, ap, ◌∙◌, ⊎_elim, arith}
use Rattle.std.specs.List.{insert, remove, slice_get}
use Rattle.std.proofs.lemmas.Bool.{cases_lt, eqb-false}
use Rattle.std.proofs.lemmas.List.Edits.{length-remove, length-insert}
use Rattle.codes.specs.Codes.{level_number}
use Rattle.codes.specs.declared.quote.Level.{Level}
use Rattle.codes.specs.declared.quote.Level.TheVariants as level
use Rattle.kinds.specs.Levels.{moved, level as level_at, Change}

-- by induction: std's laws of `insert` and `remove` are about `get_or`, at places inside the list alone
module _ {X : Type 0} where
  removed_ahead : (d k : ℕ) (xs : List X) → k < d → slice_get (remove xs d) k ≡ slice_get xs k
  removed_ahead zero k xs h = absurd (omega arith)
  removed_ahead (suc d) k [] h = refl
  removed_ahead (suc d) zero (x ∷ xs) h = refl
  removed_ahead (suc d) (suc k) (x ∷ xs) h = removed_ahead d k xs (omega arith)

  removed_behind : (d k : ℕ) (xs : List X) → d ≤ k → slice_get (remove xs d) k ≡ slice_get xs (suc k)
  removed_behind zero k [] h = refl
  removed_behind zero k (x ∷ xs) h = refl
  removed_behind (suc d) zero xs h = absurd (omega arith)
  removed_behind (suc d) (suc k) [] h = refl
  removed_behind (suc d) (suc k) (x ∷ xs) h = removed_behind d k xs (omega arith)

  module _ (x : X) where
    inserted_ahead : (i k : ℕ) (xs : List X) → k < i → i ≤ length xs → slice_get (insert xs i x) k ≡ slice_get xs k
    inserted_ahead zero k xs h l = absurd (omega arith)
    inserted_ahead (suc i) k [] h l = absurd (omega arith)
    inserted_ahead (suc i) zero (y ∷ ys) h l = refl
    inserted_ahead (suc i) (suc k) (y ∷ ys) h l = inserted_ahead i k ys (omega arith) (omega arith)

    inserted_at : (i : ℕ) (xs : List X) → i ≤ length xs → slice_get (insert xs i x) i ≡ Some x
    inserted_at zero xs l = refl
    inserted_at (suc i) [] l = absurd (omega arith)
    inserted_at (suc i) (y ∷ ys) l = inserted_at i ys (omega arith)

    inserted_behind : (i k : ℕ) (xs : List X) → i ≤ k → i ≤ length xs → slice_get (insert xs i x) (suc k) ≡ slice_get xs k
    inserted_behind zero k xs h l = refl
    inserted_behind (suc i) zero xs h l = absurd (omega arith)
    inserted_behind (suc i) (suc k) [] h l = absurd (omega arith)
    inserted_behind (suc i) (suc k) (y ∷ ys) h l = inserted_behind i k ys (omega arith) (omega arith)

  module _ (d i : ℕ) (x : X) (xs : List X) (d5 : d < 5) (i5 : i < 5) (xs5 : length xs ≡ 5) where
    abbrev rest : List X
    rest = remove xs d

    rest4 : length rest ≡ 4
    rest4 = let r = length-remove xs d (omega arith) in omega arith

    fits : i ≤ length rest
    fits = let r = rest4 in omega arith

    ahead : (k : ℕ) → k < suc d → k < suc i → level_at k (moved (suc d) (suc i) x xs) ≡ level_at k xs
    ahead zero h l = refl
    ahead (suc k) h l = inserted_ahead x i k rest (omega arith) fits ∙ removed_ahead d k xs (omega arith)

    behind : (k : ℕ) → suc d < k → suc i < k → level_at k (moved (suc d) (suc i) x xs) ≡ level_at k xs
    behind zero h l = absurd (omega arith)
    behind (suc zero) h l = absurd (omega arith)
    behind (suc (suc k)) h l = inserted_behind x i k rest (omega arith) fits ∙ removed_behind d k xs (omega arith)

    up : (k : ℕ) → suc d ≤ k → k < suc i → level_at k (moved (suc d) (suc i) x xs) ≡ level_at (suc k) xs
    up zero h l = absurd (omega arith)
    up (suc k) h l = inserted_ahead x i k rest (omega arith) fits ∙ removed_behind d k xs (omega arith)

    down : (k : ℕ) → suc i ≤ k → k < suc d → level_at (suc k) (moved (suc d) (suc i) x xs) ≡ level_at k xs
    down zero h l = absurd (omega arith)
    down (suc k) h l = inserted_behind x i k rest (omega arith) fits ∙ removed_ahead d k xs (omega arith)

    alone : suc d ≡ suc i → (k : ℕ) → eqb k (suc d) ≡ false → level_at k (moved (suc d) (suc i) x xs) ≡ level_at k xs
    alone e k other =
        let ne = eqb-false k (suc d) other in
        ⊎_elim (λ less. ahead k less (omega arith)) (λ more. behind k (omega arith) (omega arith)) (cases_lt k (suc d))

    change : Change (suc d) (suc i) x xs (moved (suc d) (suc i) x xs)
    change =
        record {
          five = (xs5, length-insert rest i x fits ∙ ap (λ n. n + 1) rest4);
          stands = inserted_at x i rest fits;
          ahead = ahead;
          behind = behind;
          up = up;
          down = down;
          alone = alone;
        }

by_level : (P : ℕ → Type 0) → ((k : ℕ) → k < 5 → P (suc k)) → (l : Level) → P (level_number l)
by_level P f level.First = f 0 (omega arith)
by_level P f level.Second = f 1 (omega arith)
by_level P f level.Third = f 2 (omega arith)
by_level P f level.Fourth = f 3 (omega arith)
by_level P f level.Fifth = f 4 (omega arith)

pub laws : {X : Type 0} (delete insert : Level) (x : X) (xs : List X) → length xs ≡ 5 → Change (level_number delete) (level_number insert) x xs (moved (level_number delete) (level_number insert) x xs)
laws delete insert x xs five =
    by_level (λ n. Change n (level_number insert) x xs (moved n (level_number insert) x xs))
    (λ d d5. by_level (λ n. Change (suc d) n x xs (moved (suc d) n x xs)) (λ i i5. change d i x xs d5 i5 five) insert)
    delete
