-- What a packet's header is read as, or the refusal.
use Rattle.std.specs.Prelude.{ℕ, Bool, cond, ◌&&◌, List, length, Some, None, Ok, Err, Option, Result, ◌==◌, nat_le, nat_lt}
use Rattle.codes.specs.Codes.{coded, packet_types, packet_code}
use Rattle.codes.specs.Refusals.{Returned, alone, placed}
use Rattle.messages.specs.Verdict.{in_range}
use Rattle.messages.specs.Wire.{byte, be16, be32}
use Rattle.codes.specs.declared.packet.PacketType.{PacketType}
use Rattle.codes.specs.declared.packet.PacketType.TheVariants.{Messages, Heartbeat}
use Rattle.feed.specs.declared.packet.Header.{Header}

-- 8 to 8,192 bytes, as the length field says
abbrev pub good_length : (said len : ℕ) → Bool
good_length said len = nat_le 8 len && nat_le len 8192 && said == len

-- a heartbeat may name 0: no packet yet
abbrev pub good_number : PacketType → ℕ → Bool
good_number Messages number = in_range number
good_number Heartbeat number = nat_le number 4294967294

abbrev pub headed : PacketType → (subscription number : ℕ) → Header
headed kind subscription number = record { kind = kind; subscription = subscription; number = number }

abbrev pub numbered : ℕ → ℕ → Option PacketType → Result Header Returned
numbered subscription number None = Err (alone 3)
numbered subscription number (Some kind) = cond (good_number kind number) (Ok (headed kind subscription number)) (Err (alone 4))

-- rows 1 to 4, the uppermost first
unfoldable pub header_verdict : ℕ → List ℕ → Result Header Returned
header_verdict subscription bytes =
    cond (good_length (be16 bytes 0) (length bytes))
    (cond (byte bytes 3 == subscription)
    (numbered subscription (be32 bytes 4) (coded packet_code packet_types (byte bytes 2)))
    (Err (alone 2)))
    (Err (alone 1))

-- an M packet has a message, a heartbeat none
abbrev pub good_body : PacketType → ℕ → Bool
good_body Messages len = nat_lt 8 len
good_body Heartbeat len = len == 8

abbrev pub bodied : ℕ → Result Header Returned → Result Header Returned
bodied len (Ok h) = cond (good_body h.kind len) (Ok h) (Err (placed 5 8))
bodied len (Err e) = Err e

-- the header, once the packet as a whole is good; its messages may still be broken
unfoldable pub packet_verdict : ℕ → List ℕ → Result Header Returned
packet_verdict subscription bytes = bodied (length bytes) (header_verdict subscription bytes)
