-- The packets and the symbols of a session file.
use Rattle.std.specs.Prelude.{ℕ, ◌+◌, ◌-◌, ◌*◌, cond, List, [], ◌∷◌, map, Some, None, Option}
use Rattle.std.specs.List.{range_with_len}
use Rattle.messages.specs.Wire.{be16, be32, part}
use Rattle.sessionfile.specs.Files.{packet_offset, sound, symbols_of}
use Rattle.sessionfile.specs.declared.file.SessionFile.{SessionFile}
use Rattle.sessionfile.specs.declared.entries.Entries.{Entries}

-- the packet that starts at an offset, by its length field
abbrev pub packet_from : List ℕ → ℕ → List ℕ
packet_from file at = part file at (be16 file at)

-- all packets of a file, in the order of their offsets
abbrev pub entries_of : List ℕ → (table count : ℕ) → List (List ℕ)
entries_of file table count = map (λ i. packet_from file (be32 file (table + 4 * i))) (range_with_len 0 count)

abbrev pub entries : List ℕ → List (List ℕ)
entries file = entries_of file (be32 file 4) (be32 file 0)

-- and its symbols
abbrev pub symbols : List ℕ → List (List ℕ)
symbols file = symbols_of file (be32 file 12) (be16 file 8)

-- of any bytes: the packet that the offset at a place points at, if that field is sound
abbrev pub pointed_at : List ℕ → (place : ℕ) → Option (List ℕ)
pointed_at file place = cond (sound file (packet_offset file place)) (Some (packet_from file (be32 file place))) None

-- and the packets of these offsets, up to the first that is not
abbrev pub then_readable : Option (List ℕ) → List (List ℕ) → List (List ℕ)
then_readable None rest = []
then_readable (Some packet) rest = packet ∷ rest

abbrev pub readable : List ℕ → (table : ℕ) → List ℕ → List (List ℕ)
readable file table [] = []
readable file table (i ∷ is) = then_readable (pointed_at file (table + 4 * i)) (readable file table is)

-- what an opened file gives
abbrev pub given : SessionFile → List (List ℕ)
given f = entries f.bytes.now

-- what is still to come of the packets
abbrev pub entries_left : Entries → ℕ
entries_left e = e.packets - e.next

abbrev pub pending : Entries → List (List ℕ)
pending e = readable e.bytes.now e.offsets (range_with_len e.next (entries_left e))
