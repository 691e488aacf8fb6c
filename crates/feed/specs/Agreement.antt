-- What is read as a packet is what is laid out as it.
use Rattle.std.specs.Prelude.{◌≡◌, ℕ, ◌↔◌, List, drop, Ok, Result}
use Rattle.messages.specs.Content.{Content}
use Rattle.feed.specs.Items.{items, goods}
use Rattle.feed.specs.Layout.{LaidPacket, LaidHeartbeat}
use Rattle.feed.specs.Packets.{headed}
use Rattle.codes.specs.Refusals.{Returned}
use Rattle.feed.specs.declared.packet.Header.{Header}
use Rattle.codes.specs.declared.packet.PacketType.TheVariants.{Messages, Heartbeat}

-- the answer is an M packet with this number, and each of its messages is read, at its offset
abbrev pub ReadPacket : ℕ → List ℕ → Result Header Returned → ℕ → List Content → Type 0
ReadPacket subscription bytes answer number contents = (answer ≡ Ok (headed Messages subscription number)) × (items subscription 8 (drop 8 bytes) ≡ goods 8 contents)

abbrev pub PacketsAgree : ℕ → List ℕ → Result Header Returned → Type 0
PacketsAgree subscription bytes answer = (number : ℕ) (contents : List Content) → ReadPacket subscription bytes answer number contents ↔ LaidPacket subscription bytes number contents

abbrev pub HeartbeatsAgree : ℕ → List ℕ → Result Header Returned → Type 0
HeartbeatsAgree subscription bytes answer = (number : ℕ) → (answer ≡ Ok (headed Heartbeat subscription number)) ↔ LaidHeartbeat subscription bytes number
