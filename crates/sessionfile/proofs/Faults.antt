-- A file without a fault is a well-formed one.
use Rattle.std.proofs.Common.{◌≡◌, ℕ, zero, suc, ◌+◌, ◌*◌, ◌<◌, ◌≤◌, Bool, true, false, cond, not, ◌&&◌, ◌||◌, leb, ◌↔◌, List, [], ◌∷◌, map, length, drop, is_some, is_ok, Some, None, Option, Result, sym, refl, ap, ◌∙◌, inl, inr, arith, length-drop}
use Rattle.std.proofs.lemmas.Slice.Eq.{bytes_eq-Decides}
use Rattle.std.proofs.lemmas.Bool.Decides.{not_from_Decides}
use Rattle.std.proofs.lemmas.List.{length-take-le}
use Rattle.std.proofs.lemmas.Bool.{false_from_ne_true, cases_eq, and_parts, and_from, or_parts, not-true, leb-true, le-leb}
use Rattle.std.specs.List.{range_with_len}
use Rattle.std.specs.Option.{option_or}
use Rattle.std.specs.Str.{bytes_eq}
use Rattle.codes.specs.Codes.{coded, kinds, kind_code}
use Rattle.codes.specs.Refusals.{Returned}
use Rattle.codes.specs.declared.kind.KindCode.{KindCode}
use Rattle.codes.specs.declared.kind.KindCode.TheVariants.{Depth, Top, Imbalance}
use Rattle.codes.proofs.Cases.{coded_is}
use Rattle.messages.specs.Symbols.{well_formed, among}
use Rattle.messages.specs.Wire.{byte, be16, be32, part}
use Rattle.messages.proofs.Symbols.{symbol_passes, symbol_from}
use Rattle.sessionfile.specs.Files.{Field, field, header_fields, packet_starts, packet_offset, packet_offsets, symbol_at, symbols_of, symbol_field, symbol_fields, sound, first_fault, fault, unless, header_of, file_verdict}
use Rattle.sessionfile.specs.Layout.{PacketOffset, SymbolField, WellFormed}
use Rattle.sessionfile.specs.declared.header.FileHeader.{FileHeader}

-- fields one after the other
module _ (file : List ℕ) where
  pub first_sound : (f : Field) (fs : List Field) → first_fault file (f ∷ fs) ≡ None → (sound file f ≡ true) × (first_fault file fs ≡ None)
  first_sound (field place size good) fs h = by (leb (place + size) (length file) && good) refl h
    where
      by : (b : Bool) → (leb (place + size) (length file) && good) ≡ b → cond b (first_fault file fs) (Some place) ≡ None → ((leb (place + size) (length file) && good) ≡ true) × (first_fault file fs ≡ None)
      by true e f = (e, f)
      by false e f = absurd cc

  pub sound_skips : (f : Field) (fs : List Field) → sound file f ≡ true → first_fault file (f ∷ fs) ≡ first_fault file fs
  sound_skips (field place size good) fs s = ap (λ (b : Bool). cond b (first_fault file fs) (Some place)) s

  abbrev AllSound : List Field → Type 0
  AllSound [] = Unit {0}
  AllSound (f ∷ fs) = (sound file f ≡ true) × AllSound fs

  each_sound : (fs : List Field) → first_fault file fs ≡ None → AllSound fs
  each_sound [] h = tt
  each_sound (f ∷ fs) h = let p = first_sound f fs h in (p.0, each_sound fs p.1)

  sound_each : (fs : List Field) → AllSound fs → first_fault file fs ≡ None
  sound_each [] h = refl
  sound_each (f ∷ fs) h = sound_skips f fs h.0 ∙ sound_each fs h.1

  all_sound : (at : ℕ → Field) (a n : ℕ) → first_fault file (map at (range_with_len a n)) ≡ None → (i : ℕ) → a ≤ i → i < a + n → sound file (at i) ≡ true
  all_sound at a zero h i low high = absurd (omega arith)
  all_sound at a (suc n) h i low high =
      let p = first_sound (at a) (map at (range_with_len (a + 1) n)) h in
      elim (cases_eq a i) [ inl e ↦ ap (λ (j : ℕ). sound file (at j)) (sym e) ∙ p.0 | inr ne ↦ all_sound at (a + 1) n p.1 i (omega arith) (omega arith) ]

  pub sound_all : (at : ℕ → Field) (a n : ℕ) → ((i : ℕ) → a ≤ i → i < a + n → sound file (at i) ≡ true) → first_fault file (map at (range_with_len a n)) ≡ None
  sound_all at a zero h = refl
  sound_all at a (suc n) h = sound_skips (at a) (map at (range_with_len (a + 1) n)) (h a (omega arith) (omega arith)) ∙ sound_all at (a + 1) n (λ i low high. h i (omega arith) (omega arith))

-- a symbol among others
module _ (symbol : List ℕ) (at : ℕ → List ℕ) where
  in_none : (a n : ℕ) → among symbol (map at (range_with_len a n)) ≡ false → (i : ℕ) → a ≤ i → i < a + n → at i ≡ symbol → ⊥
  in_none a zero h i low high e = omega arith
  in_none a (suc n) h i low high e =
      let p = or_parts (bytes_eq (at a) symbol) (among symbol (map at (range_with_len (a + 1) n))) h in
      elim (cases_eq a i) [ inl same ↦ not_from_Decides _ (bytes_eq-Decides (at a) symbol) p.0 (ap at same ∙ e) | inr ne ↦ in_none (a + 1) n p.1 i (omega arith) (omega arith) e ]

  none_in : (a n : ℕ) → ((i : ℕ) → a ≤ i → i < a + n → at i ≡ symbol → ⊥) → among symbol (map at (range_with_len a n)) ≡ false
  none_in a zero h = refl
  none_in a (suc n) h =
      ap (λ (b : Bool). b || among symbol (map at (range_with_len (a + 1) n))) (false_from_ne_true _ (λ e. h a (omega arith) (omega arith) ((bytes_eq-Decides (at a) symbol).0 e)))
      ∙ none_in (a + 1) n (λ i low high. h i (omega arith) (omega arith))

-- the kind
kind_back : (k : KindCode) → is_some (coded kind_code kinds (kind_code k)) ≡ true
kind_back Depth = refl
kind_back Top = refl
kind_back Imbalance = refl

record Kind (code : ℕ) : Type 0 where
  kind : KindCode
  is : code ≡ kind_code kind

kind_from : (code : ℕ) → is_some (coded kind_code kinds code) ≡ true → Kind code
kind_from code h = by (coded kind_code kinds code) refl h
  where
    by : (o : Option KindCode) → coded kind_code kinds code ≡ o → is_some o ≡ true → Kind code
    by (Some k) f h = record { kind = k; is = coded_is kind_code kinds code k f }
    by None f h = absurd cc

or_none : (a b : Option ℕ) → option_or a b ≡ None → (a ≡ None) × (b ≡ None)
or_none None b h = (refl, h)
or_none (Some x) b h = absurd cc

-- the three groups of fields
pub record Faultless (file : List ℕ) : Type 0 where
  pub header : first_fault file (header_fields file) ≡ None
  pub packets : first_fault file (packet_offsets file (be32 file 4) (be32 file 0)) ≡ None
  pub symbols : first_fault file (symbol_fields file (be32 file 12) (be16 file 8)) ≡ None

pub faultless : (file : List ℕ) → fault file ≡ None → Faultless file
unfolding fault
faultless file h = let p = or_none _ _ h in let q = or_none _ _ p.1 in record { header = p.0; packets = q.0; symbols = q.1 }

pub no_fault : (file : List ℕ) → Faultless file → fault file ≡ None
unfolding fault
no_fault file f = let h = f.header in let p = f.packets in let s = f.symbols in rw (h, p, s)

module _ (file : List ℕ) where
  offset_from : (place : ℕ) → sound file (packet_offset file place) ≡ true → PacketOffset file place
  offset_from place h =
      let a = and_parts (leb (place + 4) (length file)) (packet_starts file (be32 file place)) h in
      let at = be32 file place in
      let b = and_parts (leb 8 (be16 file at) && leb (be16 file at) 8192) (leb (at + be16 file at) (length file)) a.1 in
      let c = and_parts (leb 8 (be16 file at)) (leb (be16 file at) 8192) b.0 in
      record { inside = leb-true _ _ a.0; shortest = leb-true _ _ c.0; longest = leb-true _ _ c.1; packet_inside = leb-true _ _ b.1 }

  offset_passes : (place : ℕ) → PacketOffset file place → sound file (packet_offset file place) ≡ true
  offset_passes place o =
      and_from _ _ (le-leb _ _ o.inside) (and_from _ _ (and_from _ _ (le-leb _ _ o.shortest) (le-leb _ _ o.longest)) (le-leb _ _ o.packet_inside))

  pub well_formed_lem : Faultless file → WellFormed file
  well_formed_lem f =
      let h = each_sound file (header_fields file) f.header in
      let count = and_parts (leb 4 (length file)) (leb (be32 file 0) 65535) h.0 in
      let symbols = and_parts (leb 10 (length file)) (leb (be16 file 8) 1024) h.1.1.0 in
      let code = and_parts (leb 12 (length file)) (is_some (coded kind_code kinds (byte file 11))) h.1.1.1.1.0 in
      let whole = and_parts (leb 16 (length file)) true h.1.1.1.1.1.0 in
      let k = kind_from (byte file 11) code.1 in
      let table = be32 file 12 in
      let each : (i : ℕ) → i < be16 file 8 → sound file (symbol_field file table i) ≡ true = λ i below. all_sound file (symbol_field file table) 0 (be16 file 8) f.symbols i (omega arith) (omega arith) in
      record {
        header = leb-true 16 (length file) whole.0;
        few_packets = leb-true _ _ count.1;
        few_symbols = leb-true _ _ symbols.1;
        kind = k.kind;
        kind_field = k.is;
        packet_offsets = λ i below. offset_from (be32 file 4 + 4 * i) (all_sound file (λ i. packet_offset file (be32 file 4 + 4 * i)) 0 (be32 file 0) f.packets i (omega arith) (omega arith));
        symbols = λ i below. (symbol_entry i (each i below)).0;
        distinct = λ i j before below. in_none (symbol_at file table j) (symbol_at file table) 0 j (symbol_entry j (each j below)).1 i (omega arith) (omega arith);
      }
    where
      symbol_entry : (i : ℕ) → sound file (symbol_field file (be32 file 12) i) ≡ true → SymbolField file (be32 file 12 + 8 * i) × (among (symbol_at file (be32 file 12) i) (symbols_of file (be32 file 12) i) ≡ false)
      symbol_entry i h =
          let place = be32 file 12 + 8 * i in
          let a = and_parts (leb (place + 8) (length file)) (well_formed (part file place 8) && not (among (part file place 8) (symbols_of file (be32 file 12) i))) h in
          let b = and_parts (well_formed (part file place 8)) (not (among (part file place 8) (symbols_of file (be32 file 12) i))) a.1 in
          let inside : place + 8 ≤ length file = leb-true _ _ a.0 in
          (record { inside = inside; symbol = symbol_from (part file place 8) (length-take-le 8 (drop place file) (omega (arith, length-drop place file))) b.0 }, not-true _ b.1)

  pub without_fault : WellFormed file → Faultless file
  without_fault w =
      let long = w.header in
      record {
        header =
            sound_each file (header_fields file) (
              and_from _ _ (le-leb 4 (length file) (omega arith)) (le-leb _ _ w.few_packets),
              (
                and_from _ _ (le-leb 8 (length file) (omega arith)) refl,
                (
                  and_from _ _ (le-leb 10 (length file) (omega arith)) (le-leb _ _ w.few_symbols),
                  (
                    and_from _ _ (le-leb 11 (length file) (omega arith)) refl,
                    (
                      and_from _ _ (le-leb 12 (length file) (omega arith)) (ap (λ (c : ℕ). is_some (coded kind_code kinds c)) w.kind_field ∙ kind_back w.kind),
                      (and_from _ _ (le-leb 16 (length file) long) refl, tt),
                    ),
                  ),
                ),
              ),
            );
        packets = sound_all file (λ i. packet_offset file (be32 file 4 + 4 * i)) 0 (be32 file 0) (λ i low high. offset_passes (be32 file 4 + 4 * i) (w.packet_offsets i (omega arith)));
        symbols = sound_all file (symbol_field file (be32 file 12)) 0 (be16 file 8) (λ i low high. symbol_passing i (omega arith));
      }
    where
      symbol_passing : (i : ℕ) → i < be16 file 8 → sound file (symbol_field file (be32 file 12) i) ≡ true
      symbol_passing i below =
          let s = w.symbols i below in
          and_from _ _ (le-leb _ _ s.inside)
          (and_from _ _ (symbol_passes _ s.symbol) (ap not (none_in (symbol_at file (be32 file 12) i) (symbol_at file (be32 file 12)) 0 i (λ j low high. w.distinct j i (omega arith) below))))

  -- an answer that is the verdict says whether the file is well formed
  pub law_at : (answer : Result FileHeader Returned) → answer ≡ file_verdict file → (is_ok answer ≡ true) ↔ WellFormed file
  law_at answer v = (λ ok. well_formed_lem (faultless file (ok_none (fault file) refl (ap is_ok (sym v) ∙ ok))), λ w. ap is_ok (v ∙ ap (λ (o : Option ℕ). unless o (header_of file)) (no_fault file (without_fault w))))
    where
      ok_none : (o : Option ℕ) → fault file ≡ o → is_ok (unless o (header_of file)) ≡ true → fault file ≡ None
      ok_none None e h = e
      ok_none (Some place) e h = absurd cc
