-- The first symbol of a list that is malformed or stands before it too.
use Rattle.std.proofs.Common.{◌≡◌, ℕ, zero, suc, ◌+◌, ◌*◌, ◌<◌, ◌≤◌, Bool, true, false, cond, not, ◌&&◌, ◌||◌, List, [], ◌∷◌, ◌++◌, length, get_or, take, drop, Some, None, Option, unwrap_or, sym, refl, ap, ◌∙◌, ap₂, ⊎_elim, arith}
use Rattle.std.specs.List.{list_any}
use Rattle.std.specs.Int.{to_le_bytes, w64}
use Rattle.std.specs.Str.{bytes_eq}
use Rattle.std.specs.Simd.{first_chunks}
use Rattle.std.proofs.Math.Bool.{or_assoc}
use Rattle.std.proofs.lemmas.List.{drop_more, drop_all, take_more, drop-drop, take-append-drop}
use Rattle.std.proofs.lemmas.List.Folds.{list_any-append}
use Rattle.std.proofs.lemmas.Bool.{cond-true, cond-false, cases_lt}
use Rattle.messages.specs.Symbols.{well_formed, among, bad_from}

-- a test of every four, and of those behind them, is one of all
pub among_chunks : {X : Type 0} (p : X → Bool) (k : ℕ) (xs : List X) → (list_any (λ four. list_any p four) (first_chunks 4 k xs) || list_any p (drop (k * 4) xs)) ≡ list_any p xs
among_chunks p zero xs = refl
among_chunks p (suc k) xs =
    let four : 4 + k * 4 ≡ suc k * 4 = omega arith in
    let more : drop (suc k * 4) xs ≡ drop (k * 4) (drop 4 xs) = sym (drop-drop (k * 4) 4 xs ∙ ap (λ n. drop n xs) four) in
    or_assoc (list_any p (take 4 xs)) (list_any (λ four. list_any p four) (first_chunks 4 k (drop 4 xs))) _
    ∙ ap (λ b. list_any p (take 4 xs) || b) (ap (λ l. list_any (λ four. list_any p four) (first_chunks 4 k (drop 4 xs)) || list_any p l) more ∙ among_chunks p k (drop 4 xs))
    ∙ sym (list_any-append p (take 4 xs) (drop 4 xs))
    ∙ ap (list_any p) (take-append-drop 4 xs)

pub among_fours : (symbol : List ℕ) (symbols rest : List (List ℕ)) (fours : List (List (List ℕ))) (n k : ℕ) (a b : Bool) → to_le_bytes w64 n ≡ symbol → fours ≡ first_chunks 4 k symbols → rest ≡ drop (k * 4) symbols → a ≡ list_any (λ four. list_any (λ s. bytes_eq s (to_le_bytes w64 n)) four) fours → b ≡ list_any (λ s. bytes_eq s (to_le_bytes w64 n)) rest → (a || b) ≡ among symbol symbols
among_fours symbol symbols rest fours n k a b of_number front back in_fours in_rest =
    rw (in_fours, in_rest, front, back) (among_chunks (λ s. bytes_eq s (to_le_bytes w64 n)) k symbols ∙ ap (λ x. among x symbols) of_number)

module _ (xs : List (List ℕ)) where
  -- the symbol at an index is well formed, and none of those before it
  abbrev pub good_at : ℕ → Bool
  good_at i = well_formed (get_or xs i []) && not (among (get_or xs i []) (take i xs))

  -- the search, gone as far as an index
  abbrev from : ℕ → Option ℕ
  from i = bad_from (take i xs) i (drop i xs)

  here : (i : ℕ) → i < length xs → from i ≡ cond (good_at i) (bad_from (take i xs ++ (get_or xs i [] ∷ [])) (suc i) (drop (i + 1) xs)) (Some i)
  here i within = ap (bad_from (take i xs) i) (drop_more xs i [] within)

  stops : (i : ℕ) → i < length xs → good_at i ≡ false → from i ≡ Some i
  stops i within e = here i within ∙ cond-false _ _ _ e

  goes_on : (i : ℕ) → i < length xs → good_at i ≡ true → from i ≡ from (i + 1)
  goes_on i within e =
      let next : i + 1 ≡ suc i = omega arith in
      here i within ∙ cond-true _ _ _ e ∙ sym (ap₂ (λ before k. bad_from before k (drop (i + 1) xs)) (take_more xs i [] within) next)

  ends : (i : ℕ) → length xs ≤ i → from i ≡ None
  ends i past = ap (bad_from (take i xs) i) (drop_all i xs past)

  abbrev pub GoodBefore : ℕ → Type 0
  GoodBefore k = (i : ℕ) → i < k → good_at i ≡ true

  reached : (k : ℕ) → k ≤ length xs → GoodBefore k → bad_from [] 0 xs ≡ from k
  reached zero inside good = refl
  reached (suc k) inside good =
      let next : k + 1 ≡ suc k = omega arith in
      reached k (omega arith) (λ i below. good i (omega arith)) ∙ goes_on k (omega arith) (good k (omega arith)) ∙ ap from next

  pub none_bad : GoodBefore (length xs) → bad_from [] 0 xs ≡ None
  none_bad good = reached (length xs) (omega arith) good ∙ ends (length xs) (omega arith)

  pub bad_at : (k : ℕ) → k < length xs → GoodBefore k → good_at k ≡ false → bad_from [] 0 xs ≡ Some k
  bad_at k within good bad = reached k (omega arith) good ∙ stops k within bad

  -- how many symbols come before the first bad one
  pub record Stopped (k : ℕ) : Type 0 where
    pub good : GoodBefore k
    pub next : k < length xs → good_at k ≡ false
    pub bound : k ≤ length xs

  stopped_from : (left i : ℕ) → i + left ≡ length xs → GoodBefore i → (k : ℕ) → k ≡ unwrap_or (from i) (length xs) → Stopped k
  stopped_from zero i all good k is =
      let e : k ≡ i = is ∙ ap (λ o. unwrap_or o (length xs)) (ends i (omega arith)) ∙ sym all ∙ omega arith in
      rw e record { good = good; next = λ h. absurd (omega arith); bound = omega arith }
  stopped_from (suc left) i all good k is = by (good_at i) refl (stopped_from left (i + 1) (omega arith))
    where
      further : good_at i ≡ true → GoodBefore (i + 1)
      further e j below = ⊎_elim (λ low. good j low) (λ high. let same : j ≡ i = omega arith in ap good_at same ∙ e) (cases_lt j i)

      by : (b : Bool) → good_at i ≡ b → (GoodBefore (i + 1) → (n : ℕ) → n ≡ unwrap_or (from (i + 1)) (length xs) → Stopped n) → Stopped k
      by true e later = later (further e) k (is ∙ ap (λ o. unwrap_or o (length xs)) (goes_on i (omega arith) e))
      by false e later =
          let f : k ≡ i = is ∙ ap (λ o. unwrap_or o (length xs)) (stops i (omega arith) e) in
          rw f record { good = good; next = λ h. e; bound = omega arith }

  pub stopped : (k : ℕ) → k ≡ unwrap_or (bad_from [] 0 xs) (length xs) → Stopped k
  stopped k is = stopped_from (length xs) 0 (omega arith) (λ i below. absurd (omega arith)) k is

  -- the answer of a search that stopped at the first bad one
  pub found : (r : Option ℕ) → (r ≡ None → GoodBefore (length xs)) → ((k : ℕ) → r ≡ Some k → k < length xs) → ((k : ℕ) → r ≡ Some k → GoodBefore k) → ((k : ℕ) → r ≡ Some k → good_at k ≡ false) → r ≡ bad_from [] 0 xs
  found None none within good bad = sym (none_bad (none refl))
  found (Some k) none within good bad = sym (bad_at k (within k refl) (good k refl) (bad k refl))
