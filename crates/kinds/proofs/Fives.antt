-- A side of five levels, turned in place.
use Rattle.std.proofs.Common.{◌≡◌, ℕ, zero, suc, ◌-◌, ◌<◌, List, [], ◌∷◌, length, take, set, refl, arith}
use Rattle.std.specs.List.{slice_rotate_right}
use borrow.Rule.Slice.PartMut.{mid_of, put_mid}
use Rattle.kinds.specs.Levels.{inserted}

module _ {X : Type 0} (x : X) where
  turned : (a b c d e : X) (k : ℕ) → k < 5 → let xs = a ∷ b ∷ c ∷ d ∷ e ∷ [] in set (put_mid k (5 - k) xs (slice_rotate_right (mid_of k (5 - k) xs) 1)) k x ≡ inserted (suc k) x (take 4 xs)
  turned a b c d e zero h = refl
  turned a b c d e (suc zero) h = refl
  turned a b c d e (suc (suc zero)) h = refl
  turned a b c d e (suc (suc (suc zero))) h = refl
  turned a b c d e (suc (suc (suc (suc zero)))) h = refl
  turned a b c d e (suc (suc (suc (suc (suc k))))) h = absurd (omega arith)

  -- a turn to the right from k on, and a write at k
  pub turned_right : (xs ys : List X) (k n : ℕ) → length xs ≡ 5 → k < 5 → n ≡ suc k → ys ≡ slice_rotate_right (mid_of k (5 - k) xs) 1 → set (put_mid k (5 - k) xs ys) k x ≡ inserted n x (take 4 xs)
  turned_right [] ys k n five h is after = absurd (omega arith)
  turned_right (a ∷ []) ys k n five h is after = absurd (omega arith)
  turned_right (a ∷ b ∷ []) ys k n five h is after = absurd (omega arith)
  turned_right (a ∷ b ∷ c ∷ []) ys k n five h is after = absurd (omega arith)
  turned_right (a ∷ b ∷ c ∷ d ∷ []) ys k n five h is after = absurd (omega arith)
  turned_right (a ∷ b ∷ c ∷ d ∷ e ∷ []) ys k n five h is after = rw (is, after) (turned a b c d e k h)
  turned_right (a ∷ b ∷ c ∷ d ∷ e ∷ f ∷ xs) ys k n five h is after = absurd (omega arith)
