-- One series: what its slot is after some messages, and after some of the session's own.
use Rattle.std.proofs.Common.{◌≡◌, ℕ, suc, ◌+◌, ◌≤◌, max, Bool, true, false, cond, ◌&&◌, eqb, ltb, ◌⊎◌, List, [], ◌∷◌, ◌++◌, map, length, take, sym, refl, ap, ◌∙◌, subst, inl, inr, append_assoc, arith}
use mathlib.Core.List.{foldl}
use Rattle.std.proofs.lemmas.Bool.{eqb-true, or_cases, and_parts}
use Rattle.kinds.specs.Meaning.{Meaning}
use Rattle.runs.specs.Taking.{Numbered, Kept, Slot, fresh, takes, taken}
use Rattle.runs.specs.Publisher.{stepped, Counting}
use Rattle.runs.specs.Runs.{reached, highest}

-- a slot after some messages of its series
abbrev pub after : Meaning → List Numbered → Slot → Slot
after K ms s = foldl (taken K) s ms

abbrev pub numbers : List Numbered → List ℕ
numbers ms = map (λ (m : Numbered). m.number) ms

module _ (K : Meaning) where
  last_taken : (k : Kept) (m : Numbered) (b : Bool) → (cond b (record { shown = K.step k.shown m.content; last = m.number }) k).last ≡ cond b m.number k.last
  last_taken k m true = refl
  last_taken k m false = refl

  pub after_last : (ms : List Numbered) (s : Slot) → (after K ms s).kept.last ≡ reached K s.kept.last ms
  after_last [] s = refl
  after_last (m ∷ ms) s = after_last ms (taken K s m) ∙ ap (λ n. reached K n ms) (last_taken s.kept m (takes K s.kept.last m))

  pub after_seen : (ms : List Numbered) (s : Slot) → (after K ms s).seen ≡ max s.seen (highest ms)
  after_seen [] s = omega arith
  after_seen (m ∷ ms) s = let h = after_seen ms (taken K s m) in omega arith

  -- message number k + 1 of all the messages of a series
  pub counted : (n : ℕ) (front : List Numbered) (m : Numbered) (rest : List Numbered) → Counting n (numbers (front ++ (m ∷ rest))) → m.number ≡ n + length front
  counted n [] m rest c = let h = c.0 in omega arith
  counted n (f ∷ front) m rest c = let h = counted (suc n) front m rest c.1 in omega arith

  pub stepped_more : (r : List ℕ) (front : List Numbered) (m : Numbered) (rest : List Numbered) → stepped K r (take (suc (length front)) (front ++ (m ∷ rest))) ≡ K.step (stepped K r (take (length front) (front ++ (m ∷ rest)))) m.content
  stepped_more r [] m rest = refl
  stepped_more r (f ∷ front) m rest = stepped_more (K.step r f.content) front m rest

  -- the record of a slot is the publisher's after its last number
  pub record Right (all : List Numbered) (s : Slot) : Type 0 where
    pub shown : s.kept.shown ≡ stepped K K.empty (take s.kept.last all)
    pub ordered : s.kept.last ≤ s.seen

  pub fresh_right : (all : List Numbered) → Right all (fresh K)
  fresh_right all = record { shown = refl; ordered = omega arith }

  module _ (all front : List Numbered) (m : Numbered) (number : m.number ≡ suc (length front))
      (more : stepped K K.empty (take (suc (length front)) all) ≡ K.step (stepped K K.empty (take (length front) all)) m.content)
      (s : Slot) (right : Right all s) where
    at_number : stepped K K.empty (take m.number all) ≡ K.step (stepped K K.empty (take (length front) all)) m.content
    at_number = ap (λ n. stepped K K.empty (take n all)) number ∙ more

    stepped_by : (eqb m.number (suc s.kept.last) ≡ true) ⊎ ((ltb (suc s.kept.last) m.number && K.settles m.content) ≡ true) → K.step s.kept.shown m.content ≡ stepped K K.empty (take m.number all)
    stepped_by (inl e) =
        let h : s.kept.last ≡ length front = omega (arith, eqb-true m.number (suc s.kept.last) e) in
        ap (λ r. K.step r m.content) (right.shown ∙ ap (λ n. stepped K K.empty (take n all)) h) ∙ sym at_number
    stepped_by (inr e) =
        K.law m.content (and_parts (ltb (suc s.kept.last) m.number) (K.settles m.content) e).1 s.kept.shown (stepped K K.empty (take (length front) all)) ∙ sym at_number

    right_by : (b : Bool) → takes K s.kept.last m ≡ b → Right all (record { kept = cond b (record { shown = K.step s.kept.shown m.content; last = m.number }) s.kept; seen = max s.seen m.number })
    right_by true e = record { shown = stepped_by (or_cases (eqb m.number (suc s.kept.last)) (ltb (suc s.kept.last) m.number && K.settles m.content) e); ordered = omega arith }
    right_by false e = record { shown = right.shown; ordered = omega (arith, right.ordered) }

  right_one : (all front : List Numbered) (m : Numbered) (rest : List Numbered) → all ≡ front ++ (m ∷ rest) → Counting 1 (numbers all) → (s : Slot) → Right all s → Right all (taken K s m)
  right_one all front m rest e c s right =
      let n = counted 1 front m rest (subst (λ (l : List Numbered). Counting 1 (numbers l)) e c) in
      right_by all front m (omega arith) (subst (λ (l : List Numbered). stepped K K.empty (take (suc (length front)) l) ≡ K.step (stepped K K.empty (take (length front) l)) m.content) (sym e) (stepped_more K.empty front m rest)) s right (takes K s.kept.last m) refl

  -- a slot that takes any stretch of its series' messages stays right
  pub right_all : (all front run rest : List Numbered) → all ≡ front ++ (run ++ rest) → Counting 1 (numbers all) → (s : Slot) → Right all s → Right all (after K run s)
  right_all all front [] rest e c s right = right
  right_all all front (m ∷ run) rest e c s right =
      right_all all (front ++ (m ∷ [])) run rest (e ∙ sym (append_assoc front (m ∷ []) (run ++ rest))) c (taken K s m) (right_one all front m (run ++ rest) e c s right)
