-- How the tests of a symbol step along its field.
use Rattle.std.proofs.Common.{◌≡◌, ℕ, zero, suc, ◌+◌, ◌^◌, ◌<◌, ◌≤◌, Bool, true, false, cond, ◌&&◌, eqb, leb, ◌↔◌, nat_eq, List, [], ◌∷◌, ◌++◌, length, get_or, drop, replicate, sym, refl, ap, ◌∙◌, arith}
use Rattle.std.proofs.lemmas.Bool.{cond-true, cond-false, eqb-true, le-leb, leb-true, and_from, and_parts}
use Rattle.std.proofs.lemmas.List.Folds.{length-prefix_len}
use Rattle.std.proofs.lemmas.List.Sums.{prefix_len-le-length}
use Rattle.std.proofs.lemmas.Bool.Decides.{Decides-eqb, same_from_decides}
use Rattle.std.proofs.lemmas.Nat.{le_bytes_8, from_le_bytes-to_le_bytes_8}
use Rattle.std.proofs.lemmas.Slice.Eq.{bytes_eq-Decides}
use Rattle.std.specs.Bool.{Decides}
use Rattle.std.specs.Int.{from_le_bytes, to_le_bytes, w64}
use Rattle.std.specs.List.{list_all, prefix_len, take_while}
use Rattle.std.specs.Str.{bytes_eq}
use Rattle.messages.specs.Layout.{Symbol}
use Rattle.messages.specs.Symbols.{printable, padded, nulls, well_formed}

-- the bytes from the first that is not printable on are null
nulls_all_of : (bs : List ℕ) → list_all (λ b. eqb b 0) bs ≡ nulls bs
nulls_all_of [] = refl
nulls_all_of (b ∷ bs) = ap (λ t. eqb b 0 && t) (nulls_all_of bs)

past_prefix : (field : List ℕ) → list_all (λ b. eqb b 0) (drop (prefix_len printable field) field) ≡ padded field
past_prefix [] = refl
past_prefix (b ∷ bs) = by (printable b) refl (past_prefix bs)
  where
    after : ℕ → Bool
    after n = list_all (λ c. eqb c 0) (drop n (b ∷ bs))

    by : (t : Bool) → printable b ≡ t → list_all (λ c. eqb c 0) (drop (prefix_len printable bs) bs) ≡ padded bs → after (prefix_len printable (b ∷ bs)) ≡ padded (b ∷ bs)
    by true t later =
        let e : 1 + prefix_len printable bs ≡ suc (prefix_len printable bs) = omega arith in
        ap after (cond-true (printable b) (1 + prefix_len printable bs) 0 t ∙ e) ∙ later ∙ sym (cond-true (printable b) (padded bs) (nulls (b ∷ bs)) t)
    by false t later = ap after (cond-false (printable b) (1 + prefix_len printable bs) 0 t) ∙ nulls_all_of (b ∷ bs) ∙ sym (cond-false (printable b) (padded bs) (nulls (b ∷ bs)) t)

pub padded_past_name : (field : List ℕ) → list_all (λ b. eqb b 0) (drop (length (take_while printable field)) field) ≡ padded field
padded_past_name field = ap (λ n. list_all (λ b. eqb b 0) (drop n field)) (length-prefix_len printable field) ∙ past_prefix field

pub name_inside : (field : List ℕ) → length (take_while printable field) ≤ length field
name_inside field = let e = length-prefix_len printable field in let p = prefix_len-le-length printable field in omega arith

-- The test says that the field is a symbol.
nulls_all : (n : ℕ) → nulls (replicate n 0) ≡ true
nulls_all zero = refl
nulls_all (suc n) = nulls_all n

padded_nulls : (n : ℕ) → padded (replicate n 0) ≡ true
padded_nulls zero = refl
padded_nulls (suc n) = nulls_all n

abbrev Printable : List ℕ → Type 0
Printable name = (i : ℕ) → i < length name → (33 ≤ get_or name i 0) × (get_or name i 0 ≤ 126)

first_printable : (b : ℕ) (bs : List ℕ) → Printable (b ∷ bs) → printable b ≡ true
first_printable b bs h = let p = h 0 (omega arith) in and_from _ _ (le-leb 33 b p.0) (le-leb b 126 p.1)

rest_printable : (b : ℕ) (bs : List ℕ) → Printable (b ∷ bs) → Printable bs
rest_printable b bs h i inside = h (suc i) (omega arith)

more_printable : (b : ℕ) (bs : List ℕ) → printable b ≡ true → Printable bs → Printable (b ∷ bs)
more_printable b bs p h zero inside = let q = and_parts (leb 33 b) (leb b 126) p in (leb-true 33 b q.0, leb-true b 126 q.1)
more_printable b bs p h (suc i) inside = h i (omega arith)

padded_spelled : (name : List ℕ) (padding : ℕ) → Printable name → padded (name ++ replicate padding 0) ≡ true
padded_spelled [] padding h = padded_nulls padding
padded_spelled (b ∷ bs) padding h = cond-true _ _ _ (first_printable b bs h) ∙ padded_spelled bs padding (rest_printable b bs h)

pub symbol_passes : (field : List ℕ) → Symbol field → well_formed field ≡ true
symbol_passes field s = ap well_formed s.spelled ∙ spelled s.name s.some s.printable
  where
    spelled : (name : List ℕ) → 1 ≤ length name → Printable name → well_formed (name ++ replicate s.padding 0) ≡ true
    spelled [] some h = absurd (omega arith)
    spelled (b ∷ bs) some h = and_from _ _ (first_printable b bs h) (padded_spelled bs s.padding (rest_printable b bs h))

record Spelled (field : List ℕ) : Type 0 where
  name : List ℕ
  padding : ℕ
  spelled : field ≡ name ++ replicate padding 0
  printable : Printable name

all_null : (field : List ℕ) → nulls field ≡ true → field ≡ replicate (length field) 0
all_null [] h = refl
all_null (b ∷ bs) h = let p = and_parts (eqb b 0) (nulls bs) h in let e = eqb-true b 0 p.0 in let f = all_null bs p.1 in cc

spell : (field : List ℕ) → padded field ≡ true → Spelled field
spell [] h = record { name = []; padding = 0; spelled = refl; printable = λ i inside. absurd (omega arith) }
spell (b ∷ bs) h = by (printable b) refl h (λ k. spell bs k)
  where
    by : (t : Bool) → printable b ≡ t → cond t (padded bs) (nulls (b ∷ bs)) ≡ true → (padded bs ≡ true → Spelled bs) → Spelled (b ∷ bs)
    by true t e later = let s = later e in record { name = b ∷ s.name; padding = s.padding; spelled = ap (λ l. b ∷ l) s.spelled; printable = more_printable b s.name t s.printable }
    by false t e later = record { name = []; padding = length (b ∷ bs); spelled = all_null (b ∷ bs) e; printable = λ i inside. absurd (omega arith) }

pub symbol_from : (field : List ℕ) → length field ≡ 8 → well_formed field ≡ true → Symbol field
symbol_from [] eight h = absurd (omega arith)
symbol_from (b ∷ bs) eight h =
    let p = and_parts (printable b) (padded bs) h in
    let s = spell bs p.1 in
    record {
      name = b ∷ s.name;
      padding = s.padding;
      spelled = ap (λ l. b ∷ l) s.spelled;
      eight = eight;
      some = omega arith;
      printable = more_printable b s.name p.0 s.printable;
    }

-- an answer that is the test's says whether the field is a symbol
pub symbol_law : (field : List ℕ) (r : Bool) → r ≡ well_formed field → length field ≡ 8 → (r ≡ true) ↔ Symbol field
symbol_law field r test eight = (λ e. symbol_from field eight (sym test ∙ e), λ s. test ∙ symbol_passes field s)

-- A symbol and the number in its bytes.
module _ (symbol : List ℕ) (eight : length symbol ≡ 8) (bytes : (i : ℕ) → get_or symbol i 0 < 256) where
  pub back : (n : ℕ) → n ≡ from_le_bytes w64 symbol → to_le_bytes w64 n ≡ symbol
  back n is = le_bytes_8 symbol n eight bytes is

  pub of_number : (m n : ℕ) → m ≡ from_le_bytes w64 symbol → n < 2 ^ 64 → nat_eq m n ≡ bytes_eq symbol (to_le_bytes w64 n)
  of_number m n is fits = same_from_decides (nat_eq m n) (bytes_eq symbol (to_le_bytes w64 n)) decides (bytes_eq-Decides symbol (to_le_bytes w64 n))
    where
      decides : Decides (nat_eq m n) (symbol ≡ to_le_bytes w64 n)
      decides = (
        λ e. sym (back m is) ∙ ap (to_le_bytes w64) ((Decides-eqb m n).0 e),
        λ e. (Decides-eqb m n).1 (is ∙ ap (from_le_bytes w64) e ∙ from_le_bytes-to_le_bytes_8 n fits),
      )
