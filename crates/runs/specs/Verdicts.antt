-- Why a packet is refused, row by row.
use Rattle.std.specs.Prelude.{ℕ, Bool, true, false, cond, not, ◌&&◌, List, [], ◌∷◌, drop, Some, None, Ok, Err, Option, Result, ◌==◌}
use Rattle.codes.specs.Refusals.{Returned, alone, placed}
use Rattle.codes.specs.declared.packet.PacketType.{PacketType}
use Rattle.codes.specs.declared.packet.PacketType.TheVariants.{Messages, Heartbeat}
use Rattle.messages.specs.Content.{Content, quote, imbalance, event}
use Rattle.messages.specs.declared.fields.EventForm.{EventForm}
use Rattle.messages.specs.declared.fields.EventForm.TheVariants as form
use Rattle.feed.specs.Items.{Item, good, refused, items}
use Rattle.feed.specs.Packets.{packet_verdict}
use Rattle.feed.specs.declared.packet.Header.{Header}
use Rattle.kinds.specs.Meaning.{Meaning}

abbrev pub form_is_reset : EventForm → Bool
form_is_reset (form.Numbered number symbol code) = false
form_is_reset (form.Underlying code) = false
form_is_reset form.Reset = true

abbrev pub is_reset : Content → Bool
is_reset (quote q) = false
is_reset (imbalance i) = false
is_reset (event e) = form_is_reset e.form

-- whether the reset has to stand there: at the front of packet 1
abbrev pub opens : (number offset : ℕ) → Bool
opens number offset = number == 1 && offset == 8

-- a message that can be read: 6 where a reset stands and should not, or should and does not; 7 where it does not belong
abbrev pub judged : Meaning → (number offset : ℕ) → Content → Option Returned
judged K number offset c =
    cond (opens number offset)
    (cond (is_reset c) None (Some (placed 6 offset)))
    (cond (is_reset c) (Some (placed 6 offset)) (cond (K.belongs c) None (Some (placed 7 offset))))

abbrev pub or_else : Option Returned → Option Returned → Option Returned
or_else (Some r) other = Some r
or_else None other = other

-- rows 5 to 7, by the first faulty message
abbrev pub fault : Meaning → ℕ → List Item → Option Returned
fault K number [] = None
fault K number (refused r ∷ rest) = Some r
fault K number (good offset c ∷ rest) = or_else (judged K number offset c) (fault K number rest)

-- row 8: while waiting only packet 1 is taken
abbrev pub startable : PacketType → ℕ → Bool
startable Messages number = number == 1
startable Heartbeat number = false

-- rows 5 to 8 of a packet whose header is good
abbrev pub refused_for : Meaning → (waiting : Bool) → Header → List Item → Option Returned
refused_for K waiting h is = or_else (fault K h.number is) (cond (waiting && not (startable h.kind h.number)) (Some (alone 8)) None)

abbrev pub unless : Option Returned → Header → Result Header Returned
unless (Some r) h = Err r
unless None h = Ok h

abbrev pub past : Meaning → (waiting : Bool) → List Item → Result Header Returned → Result Header Returned
past K waiting is (Err r) = Err r
past K waiting is (Ok h) = unless (refused_for K waiting h is) h

-- rows 1 to 8, the uppermost first: the header, or the refusal
unfoldable pub checked : Meaning → (subscription : ℕ) → (waiting : Bool) → List ℕ → Result Header Returned
checked K subscription waiting bytes = past K waiting (items subscription 8 (drop 8 bytes)) (packet_verdict subscription bytes)
