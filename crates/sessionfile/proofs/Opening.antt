-- What opening answers, from what its checks answer, and what an opened file gives.
use Rattle.std.proofs.Common.{◌≡◌, ℕ, zero, suc, ◌+◌, ◌-◌, ◌*◌, ◌/◌, min, List, [], ◌∷◌, map, length, Some, None, Ok, Err, Option, sym, refl, ap, ◌∙◌, arith}
use Rattle.std.proofs.lemmas.Bool.{cond-true}
use Rattle.std.specs.List.{range_with_len}
use Rattle.std.specs.Option.{option_map, option_or}
use Rattle.codes.specs.Refusals.{Returned, placed}
use Rattle.messages.specs.Wire.{be16, be32}
use Rattle.sessionfile.specs.Entries.{packet_from, readable, then_readable}
use Rattle.sessionfile.specs.Files.{header_fields, packet_offset, packet_offsets, symbols_of, symbols_inside, symbol_fields, first_fault, fault, unless, header_of, file_verdict}
use Rattle.sessionfile.specs.Layout.{WellFormed}
use Rattle.sessionfile.specs.declared.header.FileHeader.{FileHeader}
use Rattle.sessionfile.proofs.Faults.{Faultless, first_sound, no_fault, well_formed_lem}

-- the header is read: no field of it is at fault
pub record Read (file : List ℕ) (h : FileHeader) : Type 0 where
  pub sound : first_fault file (header_fields file) ≡ None
  pub is : h ≡ header_of file

pub read_header : (file : List ℕ) (h : FileHeader) → Ok h ≡ unless (first_fault file (header_fields file)) (header_of file) → Read file h
read_header file h e = by (first_fault file (header_fields file)) refl e
  where
    by : (o : Option ℕ) → first_fault file (header_fields file) ≡ o → Ok h ≡ unless o (header_of file) → Read file h
    by None f e = let same : h ≡ header_of file = cc in record { sound = f; is = same }
    by (Some place) f e = absurd cc

none_mapped : (o : Option ℕ) → None ≡ option_map (placed 13) o → o ≡ None
none_mapped None e = refl
none_mapped (Some place) e = absurd cc

or_right : (o : Option ℕ) → option_or o None ≡ o
or_right None = refl
or_right (Some place) = refl

-- the first of three groups with a field at fault says the verdict
module _ (h : FileHeader) (e : Returned) where
  by_first : (a rest : Option ℕ) → Err e ≡ unless a h → Err e ≡ unless (option_or a rest) h
  by_first (Some place) rest r = r
  by_first None rest r = absurd cc

  by_second : (a b rest : Option ℕ) → a ≡ None → Some e ≡ option_map (placed 13) b → Err e ≡ unless (option_or a (option_or b rest)) h
  by_second None (Some place) rest sound r = cc
  by_second None None rest sound r = absurd cc
  by_second (Some place) b rest sound r = absurd cc

  by_third : (a b c : Option ℕ) → a ≡ None → b ≡ None → Some e ≡ option_map (placed 13) c → Err e ≡ unless (option_or a (option_or b c)) h
  by_third a None c first second r = by_second a c None first r ∙ ap (λ (o : Option ℕ). unless (option_or a o) h) (or_right c)
  by_third a (Some place) c first second r = absurd cc

pub refused_header : (file : List ℕ) (e : Returned) → Err e ≡ unless (first_fault file (header_fields file)) (header_of file) → Err e ≡ file_verdict file
unfolding fault
refused_header file e r = by_first (header_of file) e _ _ r

module _ (file : List ℕ) (h : FileHeader) (read : Read file h) where
  packets_same : first_fault file (packet_offsets file h.offsets h.packets) ≡ first_fault file (packet_offsets file (be32 file 4) (be32 file 0))
  packets_same = ap (λ (g : FileHeader). first_fault file (packet_offsets file g.offsets g.packets)) read.is

  symbols_same : first_fault file (symbol_fields file h.names h.symbols) ≡ first_fault file (symbol_fields file (be32 file 12) (be16 file 8))
  symbols_same = ap (λ (g : FileHeader). first_fault file (symbol_fields file g.names g.symbols)) read.is

  pub refused_packets : (e : Returned) → Some e ≡ option_map (placed 13) (first_fault file (packet_offsets file h.offsets h.packets)) → Err e ≡ file_verdict file
  unfolding fault
  refused_packets e r = by_second (header_of file) e _ _ _ read.sound (r ∙ ap (option_map (placed 13)) packets_same)

  module _ (packets : None ≡ option_map (placed 13) (first_fault file (packet_offsets file h.offsets h.packets))) where
    packets_sound : first_fault file (packet_offsets file (be32 file 4) (be32 file 0)) ≡ None
    packets_sound = sym packets_same ∙ none_mapped _ packets

    pub refused_symbols : (e : Returned) → Some e ≡ option_map (placed 13) (first_fault file (symbol_fields file h.names h.symbols)) → Err e ≡ file_verdict file
    unfolding fault
    refused_symbols e r = by_third (header_of file) e _ _ _ read.sound packets_sound (r ∙ ap (option_map (placed 13)) symbols_same)

    pub all_checked : None ≡ option_map (placed 13) (first_fault file (symbol_fields file h.names h.symbols)) → fault file ≡ None
    all_checked symbols = no_fault file record { header = read.sound; packets = packets_sound; symbols = sym symbols_same ∙ none_mapped _ symbols }

  pub opened : fault file ≡ None → Ok h ≡ file_verdict file
  opened f = ap Ok read.is ∙ ap (λ (o : Option ℕ). unless o (header_of file)) (sym f)

-- where no offset is at fault, the packets of all of them are given
readable_all : (file : List ℕ) (table : ℕ) (is : List ℕ) → first_fault file (map (λ i. packet_offset file (table + 4 * i)) is) ≡ None → readable file table is ≡ map (λ i. packet_from file (be32 file (table + 4 * i))) is
readable_all file table [] h = refl
readable_all file table (i ∷ is) h =
    let p = first_sound file (packet_offset file (table + 4 * i)) (map (λ i. packet_offset file (table + 4 * i)) is) h in
    let rest = readable_all file table is p.1 in
    ap (λ (o : Option (List ℕ)). then_readable o (readable file table is)) (cond-true _ _ _ p.0) ∙ ap (λ (l : List (List ℕ)). packet_from file (be32 file (table + 4 * i)) ∷ l) rest

pub given_entries : (file : List ℕ) (h : FileHeader) → h ≡ header_of file → Faultless file → readable file h.offsets (range_with_len 0 h.packets) ≡ map (λ i. packet_from file (be32 file (be32 file 4 + 4 * i))) (range_with_len 0 (be32 file 0))
given_entries file h is f = ap (λ (g : FileHeader). readable file g.offsets (range_with_len 0 g.packets)) is ∙ readable_all file (be32 file 4) (range_with_len 0 (be32 file 0)) f.packets

-- the symbols of a well-formed file are all inside
all_inside : (file : List ℕ) (n : ℕ) → n ≡ be16 file 8 → WellFormed file → min n ((length file - be32 file 12) / 8) ≡ n
all_inside file zero is w = omega arith
all_inside file (suc n) is w = let last = (w.symbols n (omega arith)).inside in omega arith

pub given_symbols_lem : (file : List ℕ) (h : FileHeader) → h ≡ header_of file → Faultless file → symbols_inside file h.names h.symbols ≡ symbols_of file (be32 file 12) (be16 file 8)
given_symbols_lem file h is f =
    ap (λ (g : FileHeader). symbols_inside file g.names g.symbols) is
    ∙ ap (symbols_of file (be32 file 12)) (all_inside file (be16 file 8) refl (well_formed_lem file f))
