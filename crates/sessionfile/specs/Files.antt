-- The fields of a session file: where each stands, and whether it is good. Numbers are high byte first.
use Rattle.std.specs.Prelude.{ℕ, ◌+◌, ◌-◌, ◌*◌, ◌/◌, min, Bool, true, cond, not, ◌&&◌, List, [], ◌∷◌, map, length, is_some, Some, None, Ok, Err, Option, Result, nat_le}
use Rattle.std.specs.List.{range_with_len}
use Rattle.std.specs.Option.{unwrap_or, option_or}
use Rattle.codes.specs.Codes.{coded, kinds, kind_code}
use Rattle.codes.specs.Refusals.{Returned, placed}
use Rattle.codes.specs.declared.kind.KindCode.{KindCode}
use Rattle.codes.specs.declared.kind.KindCode.TheVariants.{Depth}
use Rattle.messages.specs.Symbols.{well_formed, among}
use Rattle.messages.specs.Wire.{byte, be16, be32, part}
use Rattle.sessionfile.specs.declared.header.FileHeader.{FileHeader}

-- the kind that a byte stands for; what stands for none is of no account, since its field is at fault
abbrev pub kind_of : ℕ → KindCode
kind_of code = unwrap_or (coded kind_code kinds code) Depth

abbrev pub header_of : List ℕ → FileHeader
header_of file = record { packets = be32 file 0; offsets = be32 file 4; symbols = be16 file 8; subscription = byte file 10; kind = kind_of (byte file 11); names = be32 file 12 }

-- a field: its place, its length, and whether what it says is good
pub data Field : Type 0 where
  field : (place size : ℕ) (good : Bool) → Field

abbrev pub header_fields : List ℕ → List Field
header_fields file =
    field 0 4 (nat_le (be32 file 0) 65535)
    ∷ field 4 4 true
    ∷ field 8 2 (nat_le (be16 file 8) 1024)
    ∷ field 10 1 true
    ∷ field 11 1 (is_some (coded kind_code kinds (byte file 11)))
    ∷ field 12 4 true
    ∷ []

-- a packet starts at an offset: it has 8 to 8,192 bytes by its length field, all of them inside the file
abbrev pub packet_starts : List ℕ → ℕ → Bool
packet_starts file at = nat_le 8 (be16 file at) && nat_le (be16 file at) 8192 && nat_le (at + be16 file at) (length file)

-- the field of a packet offset
abbrev pub packet_offset : List ℕ → (place : ℕ) → Field
packet_offset file place = field place 4 (packet_starts file (be32 file place))

-- the packet offsets of a table
abbrev pub packet_offsets : List ℕ → (table count : ℕ) → List Field
packet_offsets file table count = map (λ i. packet_offset file (table + 4 * i)) (range_with_len 0 count)

-- a symbol of a table, counted from 0, and the first so many of them
abbrev pub symbol_at : List ℕ → (table i : ℕ) → List ℕ
symbol_at file table i = part file (table + 8 * i) 8

abbrev pub symbols_of : List ℕ → (table count : ℕ) → List (List ℕ)
symbols_of file table count = map (symbol_at file table) (range_with_len 0 count)

-- the field of a symbol: well formed, and none of those before it
abbrev pub symbol_field : List ℕ → (table i : ℕ) → Field
symbol_field file table i = field (table + 8 * i) 8 (well_formed (symbol_at file table i) && not (among (symbol_at file table i) (symbols_of file table i)))

abbrev pub symbol_fields : List ℕ → (table count : ℕ) → List Field
symbol_fields file table count = map (symbol_field file table) (range_with_len 0 count)

-- a field is wholly inside the file and good
abbrev pub sound : List ℕ → Field → Bool
sound file (field place size good) = nat_le (place + size) (length file) && good

-- the place of the first field that is not
abbrev pub first_fault : List ℕ → List Field → Option ℕ
first_fault file [] = None
first_fault file (field place size good ∷ fields) = cond (sound file (field place size good)) (first_fault file fields) (Some place)

-- the header's fields first, then the packet offsets, then the symbols, wherever they stand
unfoldable pub fault : List ℕ → Option ℕ
fault file =
    option_or (first_fault file (header_fields file))
    (option_or (first_fault file (packet_offsets file (be32 file 4) (be32 file 0)))
    (first_fault file (symbol_fields file (be32 file 12) (be16 file 8))))

abbrev pub unless : {A : Type 0} → Option ℕ → A → Result A Returned
unless None value = Ok value
unless (Some place) value = Err (placed 13 place)

abbrev pub file_verdict : List ℕ → Result FileHeader Returned
file_verdict file = unless (fault file) (header_of file)

-- the symbols of a table that are wholly inside
abbrev pub symbols_inside : List ℕ → (table count : ℕ) → List (List ℕ)
symbols_inside file table count = symbols_of file table (min count ((length file - table) / 8))
