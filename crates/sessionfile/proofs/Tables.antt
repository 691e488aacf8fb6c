-- What the checks of the two tables answer, and which symbols are inside.
use Rattle.std.proofs.Common.{◌≡◌, ℕ, zero, suc, ◌+◌, ◌-◌, ◌*◌, ◌/◌, ◌<◌, ◌≤◌, min, Bool, true, false, cond, not, ◌&&◌, leb, leb-true, List, [], ◌∷◌, map, length, take, drop, Some, None, Option, sym, refl, ap, ◌∙◌, inl, inr, arith, length-drop}
use Rattle.std.proofs.lemmas.Bool.{cases_eq, and_from, le-leb}
use Rattle.std.proofs.lemmas.List.{drop-drop, drop_all, take_rest}
use Rattle.std.proofs.lemmas.List.FromFn.{get_or-map-range_with_len, length-map-range_with_len, take-map-range_with_len}
use Rattle.std.specs.Borrow.{Bor}
use Rattle.std.specs.List.{range_with_len}
use Rattle.std.specs.Option.{unwrap_or}
use Rattle.std.specs.Slice.{IsGetRangeResult}
use Rattle.std.specs.Simd.{first_chunks}
use Rattle.messages.specs.Symbols.{well_formed, among, bad_from}
use Rattle.messages.proofs.Lists.{good_at, stopped}
use Rattle.messages.specs.Wire.{be32}
use Rattle.sessionfile.specs.Entries.{packet_from, readable, then_readable}
use Rattle.sessionfile.specs.Files.{Field, field, packet_offset, packet_offsets, symbol_at, symbols_of, symbols_inside, symbol_field, symbol_fields, sound, first_fault}
use Rattle.sessionfile.proofs.Faults.{sound_all, sound_skips}

-- the first field that is not sound
fault_at : (file : List ℕ) (at : ℕ → Field) (a n k : ℕ) → ((i : ℕ) → a ≤ i → i < k → sound file (at i) ≡ true) → a ≤ k → k < a + n → (place size : ℕ) (good : Bool) → at k ≡ field place size good → sound file (at k) ≡ false → first_fault file (map at (range_with_len a n)) ≡ Some place
fault_at file at a zero k before low high place size good is bad = absurd (omega arith)
fault_at file at a (suc n) k before low high place size good is bad =
    elim (cases_eq a k) [
      | inl same ↦ here (ap at same ∙ is) (ap (λ (i : ℕ). sound file (at i)) same ∙ bad)
      | inr ne ↦ sound_skips file (at a) (map at (range_with_len (a + 1) n)) (before a (omega arith) (omega arith)) ∙ fault_at file at (a + 1) n k (λ i low high. before i (omega arith) high) (omega arith) (omega arith) place size good is bad
    ]
  where
    here : at a ≡ field place size good → sound file (at a) ≡ false → first_fault file (at a ∷ map at (range_with_len (a + 1) n)) ≡ Some place
    here is bad =
        ap (λ (f : Field). first_fault file (f ∷ map at (range_with_len (a + 1) n))) is
        ∙ ap (λ (b : Bool). cond b (first_fault file (map at (range_with_len (a + 1) n))) (Some place)) (ap (sound file) (sym is) ∙ bad)

-- the packets that can be read stand before the first offset at fault
module _ (file : List ℕ) (table : ℕ) where
  abbrev packets : (a n : ℕ) → List (List ℕ)
  packets a n = readable file table (range_with_len a n)

  abbrev packets_if : Bool → (a n : ℕ) → List (List ℕ)
  packets_if b a n = then_readable (cond b (Some (packet_from file (be32 file (table + 4 * a)))) None) (packets (a + 1) n)

  abbrev fault_in : (a n : ℕ) → Option ℕ
  fault_in a n = first_fault file (map (λ i. packet_offset file (table + 4 * i)) (range_with_len a n))

  pub length-readable : (a n : ℕ) → length (packets a n) ≤ n
  length-readable a zero = omega arith
  length-readable a (suc n) = by (sound file (packet_offset file (table + 4 * a))) (length-readable (a + 1) n)
    where
      by : (b : Bool) → length (packets (a + 1) n) ≤ n → length (packets_if b a n) ≤ suc n
      by true rest = omega arith
      by false rest = omega arith

  fault_after : (a n : ℕ) → length (packets a n) < n → fault_in a n ≡ Some (table + 4 * (a + length (packets a n)))
  fault_after a zero h = absurd (omega arith)
  fault_after a (suc n) h = by (sound file (packet_offset file (table + 4 * a))) h (fault_after (a + 1) n)
    where
      by : (b : Bool) → length (packets_if b a n) < suc n → (length (packets (a + 1) n) < n → fault_in (a + 1) n ≡ Some (table + 4 * (a + 1 + length (packets (a + 1) n)))) → cond b (fault_in (a + 1) n) (Some (table + 4 * a)) ≡ Some (table + 4 * (a + length (packets_if b a n)))
      by true h later = let e : table + 4 * (a + 1 + length (packets (a + 1) n)) ≡ table + 4 * (a + suc (length (packets (a + 1) n))) = omega arith in later (omega arith) ∙ ap Some e
      by false h later = let e : table + 4 * a ≡ table + 4 * (a + 0) = omega arith in ap Some e

  no_fault_in : (a n : ℕ) → n ≤ length (packets a n) → fault_in a n ≡ None
  no_fault_in a zero h = refl
  no_fault_in a (suc n) h = by (sound file (packet_offset file (table + 4 * a))) h (no_fault_in (a + 1) n)
    where
      by : (b : Bool) → suc n ≤ length (packets_if b a n) → (n ≤ length (packets (a + 1) n) → fault_in (a + 1) n ≡ None) → cond b (fault_in (a + 1) n) (Some (table + 4 * a)) ≡ None
      by true h later = later (omega arith)
      by false h later = absurd (omega arith)

  pub packets_at_fault : (n k : ℕ) → k ≡ length (packets 0 n) → k < n → first_fault file (packet_offsets file table n) ≡ Some (table + 4 * k)
  packets_at_fault n k is h = let e : table + 4 * (0 + length (packets 0 n)) ≡ table + 4 * k = omega arith in fault_after 0 n (omega arith) ∙ ap Some e

  pub packets_sound : (n k : ℕ) → k ≡ length (packets 0 n) → n ≤ k → first_fault file (packet_offsets file table n) ≡ None
  packets_sound n k is h = no_fault_in 0 n (omega arith)

-- the good symbols stand before the first symbol at fault
module _ (file : List ℕ) (table n : ℕ) (symbols : List (List ℕ)) (are : symbols ≡ symbols_inside file table n) where
  abbrev inside : ℕ
  inside = min n ((length file - table) / 8)

  abbrev tested : ℕ → Bool
  tested i = well_formed (symbol_at file table i) && not (among (symbol_at file table i) (symbols_of file table i))

  inside_all : length symbols ≡ inside
  inside_all = ap length are ∙ length-map-range_with_len (symbol_at file table) 0 inside

  same_test : (i : ℕ) → i < inside → good_at symbols i ≡ tested i
  same_test i below =
      let own = get_or-map-range_with_len (symbol_at file table) 0 inside i i [] below (omega arith) in
      let before = take-map-range_with_len (symbol_at file table) 0 inside i (omega arith) in
      ap (λ (l : List (List ℕ)). good_at l i) are
      ∙ ap (λ (s : List ℕ). well_formed s && not (among s (take i (symbols_inside file table n)))) own
      ∙ ap (λ (l : List (List ℕ)). well_formed (symbol_at file table i) && not (among (symbol_at file table i) l)) before

  module _ (k : ℕ) (is : k ≡ unwrap_or (bad_from [] 0 symbols) (length symbols)) where
    sound_before : (i : ℕ) → i < k → sound file (symbol_field file table i) ≡ true
    sound_before i below =
        let all = inside_all in
        let s = stopped symbols k is in
        let bound : k ≤ length symbols = s.bound in
        let fits : table + 8 * i + 8 ≤ length file = omega arith in
        and_from _ _ (le-leb _ _ fits) (sym (same_test i (omega arith)) ∙ s.good i below)

    pub symbols_sound : n ≤ k → first_fault file (symbol_fields file table n) ≡ None
    symbols_sound h = sound_all file (symbol_field file table) 0 n (λ i low high. sound_before i (omega arith))

    pub symbols_at_fault : k < n → first_fault file (symbol_fields file table n) ≡ Some (table + 8 * k)
    symbols_at_fault h =
        fault_at file (symbol_field file table) 0 n k (λ i low high. sound_before i high) (omega arith) (omega arith) (table + 8 * k) 8 (tested k) refl (bad (leb (table + 8 * k + 8) (length file)) refl)
      where
        bad : (b : Bool) → leb (table + 8 * k + 8) (length file) ≡ b → (b && tested k) ≡ false
        bad false e = refl
        bad true e =
            let all = inside_all in
            let fits : table + 8 * k + 8 ≤ length file = leb-true _ _ e in
            let below : k < inside = omega arith in
            sym (same_test k below) ∙ (stopped symbols k is).next (omega arith)

-- the rest of a file from an offset on, which may lie past its end
pub rest_from : (file : List ℕ) (at : ℕ) (got : Option (Bor (List ℕ))) (rest none : Bor (List ℕ)) → IsGetRangeResult file at (length file) got → none.now ≡ [] → rest ≡ unwrap_or got none → rest.now ≡ drop at file
rest_from file at None rest none h empty is = ap (λ (x : Bor (List ℕ)). x.now) is ∙ empty ∙ sym (drop_all at file (elim h.0 [ inl past ↦ omega arith | inr never ↦ omega arith ]))
rest_from file at (Some part) rest none h empty is = ap (λ (x : Bor (List ℕ)). x.now) is ∙ h.0.2 ∙ take_rest file at

-- runs of 8 bytes are the symbols of a table
chunks_symbols : (file : List ℕ) (table i n m : ℕ) → n ≤ m → take n (first_chunks 8 m (drop (table + 8 * i) file)) ≡ map (symbol_at file table) (range_with_len i n)
chunks_symbols file table i zero m h = refl
chunks_symbols file table i (suc n) zero h = absurd (omega arith)
chunks_symbols file table i (suc n) (suc m) h =
    let e : table + 8 * i + 8 ≡ table + 8 * (i + 1) = omega arith in
    let d : drop 8 (drop (table + 8 * i) file) ≡ drop (table + 8 * (i + 1)) file = drop-drop 8 (table + 8 * i) file ∙ ap (λ (k : ℕ). drop k file) e in
    ap (λ (l : List ℕ). symbol_at file table i ∷ take n (first_chunks 8 m l)) d ∙ ap (λ (l : List (List ℕ)). symbol_at file table i ∷ l) (chunks_symbols file table (i + 1) n m (omega arith))

pub chunks_inside : (file : List ℕ) (table n k : ℕ) (rest : List ℕ) (chunks : List (List ℕ)) → rest ≡ drop table file → chunks ≡ first_chunks 8 (length rest / 8) rest → k ≡ min (length rest / 8) n → take k chunks ≡ symbols_inside file table n
chunks_inside file table n k rest chunks er ec ek =
    let long : length rest ≡ length file - table = ap length er ∙ length-drop table file in
    let same : k ≡ min n ((length file - table) / 8) = ek ∙ ap (λ (m : ℕ). min (m / 8) n) long ∙ omega arith in
    let z : table + 8 * 0 ≡ table = omega arith in
    ap (take k) ec
    ∙ ap (λ (l : List ℕ). take k (first_chunks 8 (length rest / 8) l)) (er ∙ ap (λ (j : ℕ). drop j file) (sym z))
    ∙ chunks_symbols file table 0 k (length rest / 8) (omega arith)
    ∙ ap (λ (j : ℕ). symbols_of file table j) same
