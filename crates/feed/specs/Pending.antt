-- The messages of a packet that are still to come, and what a call of `next` takes of them.
use Rattle.std.specs.Prelude.{◌≡◌, ℕ, ◌-◌, List, [], ◌∷◌, length, drop, Some, None, Ok, Err, Option, Result}
use Rattle.messages.specs.Content.{size}
use Rattle.feed.specs.Items.{Item, good, refused, items}
use Rattle.messages.specs.Messages.{content, own_bytes}
use Rattle.codes.specs.Refusals.{returned}
use Rattle.messages.specs.Wire.{part}
use Rattle.messages.specs.declared.message.Message.{Message}
use Rattle.feed.specs.declared.packet.Messages.{Messages}
use Rattle.feed.specs.declared.packet.Packet.{Packet}
use Rattle.codes.specs.declared.refusal.Refusal.{Refusal}

-- all messages of a packet
abbrev pub packet_items : Packet → List Item
packet_items p = items p.header.subscription 8 (drop 8 p.bytes.now)

abbrev pub pending : Messages → List Item
pending m = items m.subscription m.at (drop m.at m.packet.now)

abbrev pub bytes_left : Messages → ℕ
bytes_left m = length m.packet.now - m.at

abbrev pub item_of : Result (ℕ × Message) Refusal → Item
item_of (Ok (offset, message)) = good offset (content message)
item_of (Err refusal) = refused (returned refusal)

-- the message holds exactly its own bytes of the packet
abbrev pub Cut : List ℕ → Result (ℕ × Message) Refusal → Type 0
Cut packet (Ok (offset, message)) = own_bytes message ≡ part packet offset (size (content message))
Cut packet (Err refusal) = Unit {0}

abbrev pub Next : Messages → Option (Result (ℕ × Message) Refusal) → Messages → Type 0
Next before None after = (pending before ≡ []) × (after ≡ before)
Next before (Some item) after = (pending before ≡ item_of item ∷ pending after) × Cut before.packet.now item × (after.packet ≡ before.packet) × (after.subscription ≡ before.subscription)
