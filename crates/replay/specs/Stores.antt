-- What a replay store holds, and what a fetch answers and leaves in the buffer.
use Rattle.std.specs.Prelude.{ℕ, Bool, cond, ◌&&◌, List, ◌++◌, length, drop, Some, None, Ok, Err, Option, Result, ◌==◌, nat_le}
use Rattle.std.specs.Option.{option_map}
use Rattle.std.specs.List.{find}
use Rattle.codes.specs.Refusals.{Returned, alone}
use Rattle.messages.specs.Layout.{Number}
use Rattle.messages.specs.Verdict.{in_range}
use Rattle.messages.specs.Wire.{byte, be16, be32}
use Rattle.feed.specs.Layout.{PacketHeader}
use Rattle.feed.specs.Packets.{good_length}

-- under a number stands nothing, or an M packet that carries it, of 8 to 8,192 bytes by its length field
abbrev pub Shaped : ℕ → Option (List ℕ) → Type 0
Shaped number None = Unit {0}
Shaped number (Some packet) = Number number × PacketHeader 77 (byte packet 3) number packet

-- whether a number may be fetched into a buffer of this length
abbrev pub fetchable : (number room : ℕ) → Result (Unit {0}) Returned
fetchable number room = cond (in_range number) (cond (nat_le 8192 room) (Ok tt) (Err (alone 9))) (Err (alone 4))

-- the answer: the length of what is held, or that nothing is
abbrev pub length_if : Result (Unit {0}) Returned → Option (List ℕ) → Result (Option ℕ) Returned
length_if (Ok _) held = Ok (option_map length held)
length_if (Err refusal) held = Err refusal

abbrev pub fetch_verdict : Option (List ℕ) → (number room : ℕ) → Result (Option ℕ) Returned
fetch_verdict held number room = length_if (fetchable number room) held

-- the buffer after it: the packet at its front, and the bytes past the packet as before
abbrev pub over : Option (List ℕ) → List ℕ → List ℕ
over None buffer = buffer
over (Some packet) buffer = packet ++ drop (length packet) buffer

abbrev pub over_if : Result (Unit {0}) Returned → Option (List ℕ) → List ℕ → List ℕ
over_if (Ok _) held buffer = over held buffer
over_if (Err refusal) held buffer = buffer

abbrev pub fetched_into : Option (List ℕ) → (number : ℕ) → List ℕ → List ℕ
fetched_into held number buffer = over_if (fetchable number (length buffer)) held buffer

-- an M packet on a subscription that carries a number, of 8 to 8,192 bytes by its length field
abbrev pub carries : (subscription number : ℕ) → List ℕ → Bool
carries subscription number packet =
    good_length (be16 packet 0) (length packet) && (byte packet 2 == 77 && (byte packet 3 == subscription && (be32 packet 4 == number && in_range number)))

-- what packets in a row hold: under a number, the first of them that carries it
abbrev pub holding : (subscription : ℕ) → List (List ℕ) → (number : ℕ) → Option (List ℕ)
holding subscription packets number = find (carries subscription number) packets
