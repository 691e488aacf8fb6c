-- How far the first packet of some bytes reaches, by its length field.
use Rattle.std.specs.Prelude.{ℕ, cond, ◌&&◌, List, length, Some, None, Option, nat_le}
use Rattle.messages.specs.Wire.{be16}

-- 8 to 8,192 bytes, and no more than there are
abbrev pub packet_length : List ℕ → Option ℕ
packet_length bytes = cond (nat_le 8 (be16 bytes 0) && nat_le (be16 bytes 0) 8192 && nat_le (be16 bytes 0) (length bytes)) (Some (be16 bytes 0)) None
