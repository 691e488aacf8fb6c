-- The eight bytes that packets and messages start with: a length, a type, a subscription, and a packet's number or a
-- message's stamp.
use Rattle.std.specs.Prelude.{ℕ, cond, List, length, Some, None, Option, nat_le}
use Rattle.messages.specs.Wire.{byte, be16, be32}
use Rattle.messages.specs.declared.header.RawHeader.{RawHeader}

abbrev pub header_in : List ℕ → RawHeader
header_in bytes = record { length = be16 bytes 0; code = byte bytes 2; subscription = byte bytes 3; last = be32 bytes 4 }

abbrev pub header_at_front : List ℕ → Option RawHeader
header_at_front bytes = cond (nat_le 8 (length bytes)) (Some (header_in bytes)) None
