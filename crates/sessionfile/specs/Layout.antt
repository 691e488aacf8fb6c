-- A well-formed session file: which field stands at which offset, apart from any order of checks.
use Rattle.std.specs.Prelude.{◌≡◌, ℕ, ◌+◌, ◌*◌, ◌<◌, ◌≤◌, List, length, ◌≢◌}
use Rattle.codes.specs.Codes.{kind_code}
use Rattle.codes.specs.declared.kind.KindCode.{KindCode}
use Rattle.messages.specs.Layout.{Symbol}
use Rattle.messages.specs.Wire.{byte, be16, be32, part}

-- an offset that points at a packet of 8 to 8,192 bytes, by its length field, inside the file
pub record PacketOffset (file : List ℕ) (place : ℕ) : Type 0 where
  pub inside : place + 4 ≤ length file
  pub shortest : 8 ≤ be16 file (be32 file place)
  pub longest : be16 file (be32 file place) ≤ 8192
  pub packet_inside : be32 file place + be16 file (be32 file place) ≤ length file

pub record SymbolField (file : List ℕ) (place : ℕ) : Type 0 where
  pub inside : place + 8 ≤ length file
  pub symbol : Symbol (part file place 8)

pub record WellFormed (file : List ℕ) : Type 0 where
  pub header : 16 ≤ length file
  -- the packet count at 0, the symbol count at 8, the kind at 11
  pub few_packets : be32 file 0 ≤ 65535
  pub few_symbols : be16 file 8 ≤ 1024
  pub kind : KindCode
  pub kind_field : byte file 11 ≡ kind_code kind
  -- the packet offsets stand from the offset at 4 on, the symbols from the offset at 12 on
  pub packet_offsets : (i : ℕ) → i < be32 file 0 → PacketOffset file (be32 file 4 + 4 * i)
  pub symbols : (i : ℕ) → i < be16 file 8 → SymbolField file (be32 file 12 + 8 * i)
  pub distinct : (i j : ℕ) → i < j → j < be16 file 8 → part file (be32 file 12 + 8 * i) 8 ≢ part file (be32 file 12 + 8 * j) 8
