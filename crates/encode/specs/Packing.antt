-- What the packet writers answer, and what they leave in the buffer.
use Rattle.std.specs.Prelude.{◌≡◌, ℕ, ◌+◌, cond, ◌↔◌, List, [], ◌∷◌, ◌++◌, length, take, drop, Some, None, Ok, Err, Option, Result, nat_le}
use Rattle.codes.specs.Codes.{packet_code}
use Rattle.codes.specs.Refusals.{Returned, alone, placed}
use Rattle.codes.specs.declared.packet.PacketType.{PacketType}
use Rattle.codes.specs.declared.packet.PacketType.TheVariants.{Messages, Heartbeat}
use Rattle.messages.specs.Content.{Content}
use Rattle.feed.specs.Items.{Item, good, refused, items}
use Rattle.feed.specs.Layout.{LaidMessages, LaidPacket, LaidHeartbeat}
use Rattle.feed.specs.Agreement.{ReadPacket}
use Rattle.feed.specs.Packets.{headed, packet_verdict}
use Rattle.messages.specs.Verdict.{in_range}
use Rattle.encode.specs.Encode.{header_bytes}
use Rattle.encode.specs.Writing.{put_answer, put}

abbrev pub packet_header : PacketType → (len subscription number : ℕ) → List ℕ
packet_header kind len subscription number = header_bytes len (packet_code kind) subscription number

-- a header before joined messages
abbrev pub packet_bytes : (subscription number : ℕ) → List ℕ → List ℕ
packet_bytes subscription number messages = packet_header Messages (8 + length messages) subscription number ++ messages

abbrev pub first_refused : List Item → Option Returned
first_refused [] = None
first_refused (good offset c ∷ is) = first_refused is
first_refused (refused r ∷ is) = Some r

-- what is wrong with joined messages: there is none, or one is broken
abbrev pub messages_fault : ℕ → List ℕ → Option Returned
messages_fault subscription [] = Some (placed 5 8)
messages_fault subscription (b ∷ bs) = first_refused (items subscription 8 (b ∷ bs))

-- what is wrong with a packet: its length, its number, its messages, in this order
unfoldable pub packet_fault : (subscription number : ℕ) → List ℕ → Option Returned
packet_fault subscription number messages =
    cond (nat_le (length messages) 8184)
    (cond (in_range number) (messages_fault subscription messages) (Some (alone 4)))
    (Some (alone 1))

abbrev pub heartbeat_fault : ℕ → Option Returned
heartbeat_fault number = cond (nat_le number 4294967294) None (Some (alone 4))

-- the answer, and the buffer after it: bytes are put into it where nothing is at fault
abbrev pub or_fault : Option Returned → List ℕ → List ℕ → Result ℕ Returned
or_fault None own out = put_answer (length own) out
or_fault (Some r) own out = Err r

abbrev pub put_unless : Option Returned → List ℕ → List ℕ → List ℕ
put_unless None own out = put own out
put_unless (Some r) own out = out

pub record WrotePacket (subscription number : ℕ) (messages before after : List ℕ) (answer : Result ℕ Returned) : Type 0 where
  pub answers : answer ≡ or_fault (packet_fault subscription number messages) (packet_bytes subscription number messages) before
  pub leaves : after ≡ put_unless (packet_fault subscription number messages) (packet_bytes subscription number messages) before
  -- what is written is a packet with those messages, and is read as its header and those messages, in order, at their
  -- offsets
  pub laid : (contents : List Content) → LaidMessages subscription messages contents → answer ≡ Ok (8 + length messages) → LaidPacket subscription (take (8 + length messages) after) number contents
  pub reads : (contents : List Content) → LaidMessages subscription messages contents → answer ≡ Ok (8 + length messages) → ReadPacket subscription (take (8 + length messages) after) (packet_verdict subscription (take (8 + length messages) after)) number contents
  -- nothing but room is asked for, exactly where some bytes are a packet with this number and these messages
  pub refuses : (answer ≡ put_answer (8 + length messages) before) ↔ ((bytes : List ℕ) × (contents : List Content) × LaidPacket subscription bytes number contents × (drop 8 bytes ≡ messages))

pub record WroteHeartbeat (subscription number : ℕ) (before after : List ℕ) (answer : Result ℕ Returned) : Type 0 where
  pub answers : answer ≡ or_fault (heartbeat_fault number) (packet_header Heartbeat 8 subscription number) before
  pub leaves : after ≡ put_unless (heartbeat_fault number) (packet_header Heartbeat 8 subscription number) before
  pub laid : answer ≡ Ok 8 → LaidHeartbeat subscription (take 8 after) number
  pub reads : answer ≡ Ok 8 → packet_verdict subscription (take 8 after) ≡ Ok (headed Heartbeat subscription number)
  pub refuses : (answer ≡ put_answer 8 before) ↔ ((bytes : List ℕ) × LaidHeartbeat subscription bytes number)
