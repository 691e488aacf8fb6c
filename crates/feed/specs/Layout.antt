-- The layout of packets: which field stands at which offset.
use Rattle.std.specs.Prelude.{◌≡◌, ℕ, ◌≤◌, List, [], ◌∷◌, ◌++◌, length, drop}
use Rattle.messages.specs.Content.{Content}
use Rattle.messages.specs.Layout.{Number, LaidMessage}
use Rattle.messages.specs.Wire.{byte, be16, be32}

-- messages one after the other
pub data LaidMessages (subscription : ℕ) : List ℕ → List Content → Type 0 where
  none : LaidMessages subscription [] []
  more : (own rest : List ℕ) {c : Content} {cs : List Content} → LaidMessage subscription own c → LaidMessages subscription rest cs → LaidMessages subscription (own ++ rest) (c ∷ cs)

-- the header of a packet
pub record PacketHeader (type subscription number : ℕ) (bytes : List ℕ) : Type 0 where
  pub shortest : 8 ≤ length bytes
  pub longest : length bytes ≤ 8192
  pub length_field : be16 bytes 0 ≡ length bytes
  pub type_field : byte bytes 2 ≡ type
  pub subscription_field : byte bytes 3 ≡ subscription
  pub number_field : be32 bytes 4 ≡ number

-- an M packet
pub record LaidPacket (subscription : ℕ) (bytes : List ℕ) (number : ℕ) (contents : List Content) : Type 0 where
  pub header : PacketHeader 77 subscription number bytes
  pub number_good : Number number
  pub some : 1 ≤ length contents
  pub messages : LaidMessages subscription (drop 8 bytes) contents

-- a B packet, the heartbeat
pub record LaidHeartbeat (subscription : ℕ) (bytes : List ℕ) (number : ℕ) : Type 0 where
  pub header : PacketHeader 66 subscription number bytes
  pub all : length bytes ≡ 8
  pub high : number ≤ 4294967294
