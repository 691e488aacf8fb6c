-- Numbers on the wire: unsigned, the high byte first.
use Rattle.std.specs.Prelude.{ℕ, ◌+◌, ◌*◌, List, take, drop, slice_index}

-- the byte at an offset
abbrev pub byte : List ℕ → ℕ → ℕ
byte bytes at = slice_index bytes at

abbrev pub be16 : List ℕ → ℕ → ℕ
be16 bytes at = byte bytes at * 256 + byte bytes (at + 1)

abbrev pub be32 : List ℕ → ℕ → ℕ
be32 bytes at = byte bytes at * 16777216 + byte bytes (at + 1) * 65536 + byte bytes (at + 2) * 256 + byte bytes (at + 3)

-- the part of a length at an offset
abbrev pub part : List ℕ → ℕ → ℕ → List ℕ
part bytes at len = take len (drop at bytes)
