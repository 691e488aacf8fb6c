-- A session, and what a delivery makes of it.
use Rattle.std.specs.Prelude.{ℕ, ◌+◌, max, Bool, true, false, cond, not, ◌&&◌, List, [], ◌∷◌, map, drop, is_some, Some, None, Ok, Err, Option, Result, ◌==◌}
use Rattle.std.specs.Str.{bytes_eq}
use Rattle.codes.specs.Refusals.{Returned, alone}
use Rattle.codes.specs.declared.packet.PacketType.{PacketType}
use Rattle.codes.specs.declared.packet.PacketType.TheVariants.{Messages, Heartbeat}
use Rattle.messages.specs.Content.{Content, stamp_in}
use Rattle.feed.specs.Items.{Item, good, refused, items}
use Rattle.feed.specs.declared.packet.Header.{Header}
use Rattle.kinds.specs.Meaning.{Meaning}
use Rattle.runs.specs.Taking.{Slot, stale}
use Rattle.runs.specs.Watching.{Watched, renewed, fed, moved}
use Rattle.runs.specs.Verdicts.{checked}

-- an M packet: its number, and what its messages say
pub record Packet : Type 0 where
  pub number : ℕ
  pub contents : List Content

-- the messages up to one that is broken
abbrev pub contents_of : List Item → List Content
contents_of [] = []
contents_of (refused r ∷ rest) = []
contents_of (good offset c ∷ rest) = c ∷ contents_of rest

-- the packet that bytes hold
abbrev pub packet_in : (subscription number : ℕ) → List ℕ → Packet
packet_in subscription number bytes = record { number = number; contents = contents_of (items subscription 8 (drop 8 bytes)) }

-- the stamp of the first message
abbrev pub stamp_of : List Content → ℕ
stamp_of [] = 0
stamp_of (c ∷ cs) = stamp_in c

-- a session: waiting while it has no stamp
pub record State : Type 0 where
  pub subscription : ℕ
  pub stamp : Option ℕ
  pub next : ℕ
  pub top : ℕ
  pub slots : List Watched

abbrev pub waits : State → Bool
waits s = not (is_some s.stamp)

-- a session that waits for its first packet
abbrev pub opened : Meaning → ℕ → List Watched → State
opened K subscription ws = record { subscription = subscription; stamp = None; next = 1; top = 0; slots = map (renewed K) ws }

-- packet 1 starts a session, unless it has the session's own stamp
abbrev pub starts_over : Option ℕ → (number stamp : ℕ) → Bool
starts_over None number stamp = number == 1
starts_over (Some own) number stamp = number == 1 && not (own == stamp)

abbrev pub starts : State → Packet → Bool
starts s p = starts_over s.stamp p.number (stamp_of p.contents)

-- before the messages of a packet are taken: empty slots where it starts a session
abbrev pub readied : Bool → Meaning → State → Packet → State
readied true K s p = record { subscription = s.subscription; stamp = Some (stamp_of p.contents); next = 2; top = 1; slots = map (renewed K) s.slots }
readied false K s p = record { subscription = s.subscription; stamp = s.stamp; next = cond (p.number == s.next) (s.next + 1) s.next; top = max s.top p.number; slots = s.slots }

-- a state with its slots fed
abbrev pub feeding : Meaning → State → List Content → State
feeding K s cs = record { subscription = s.subscription; stamp = s.stamp; next = s.next; top = s.top; slots = fed K s.slots cs }

-- an M packet taken, and how many of its messages moved a last number
abbrev pub arrived : Meaning → State → Packet → State
arrived K s p = feeding K (readied (starts s p) K s p) p.contents

abbrev pub arrived_count : Meaning → State → Packet → ℕ
arrived_count K s p = moved K (readied (starts s p) K s p).slots p.contents

-- a heartbeat raises top
abbrev pub heard : State → ℕ → State
heard s number = record { subscription = s.subscription; stamp = s.stamp; next = s.next; top = max s.top number; slots = s.slots }

abbrev pub received : Meaning → State → List ℕ → PacketType → ℕ → ℕ × State
received K s bytes Messages number = (arrived_count K s (packet_in s.subscription number bytes), arrived K s (packet_in s.subscription number bytes))
received K s bytes Heartbeat number = (0, heard s number)

abbrev pub outcome : Meaning → State → List ℕ → Result Header Returned → Result ℕ Returned × State
outcome K s bytes (Err r) = (Err r, s)
outcome K s bytes (Ok h) = (Ok (received K s bytes h.kind h.number).0, (received K s bytes h.kind h.number).1)

abbrev pub delivered_in : Meaning → State → List ℕ → Result ℕ Returned × State
delivered_in K s bytes = outcome K s bytes (checked K s.subscription (waits s) bytes)

-- A delivery: the answer, and the session after it.
unfoldable pub delivered : Meaning → State → List ℕ → Result ℕ Returned × State
delivered K s bytes = delivered_in K s bytes

-- what a look shows of a series: its record, its last number, and whether it is stale
pub record View : Type 0 where
  pub shown : List ℕ
  pub last : ℕ
  pub mark : Bool

abbrev pub view : Slot → View
view s = record { shown = s.kept.shown; last = s.kept.last; mark = stale s }

abbrev pub view_of : List ℕ → List Watched → Result View Returned
view_of symbol [] = Err (alone 11)
view_of symbol (w ∷ ws) = cond (bytes_eq w.symbol symbol) (Ok (view w.slot)) (view_of symbol ws)

-- A look: 8 while waiting, 11 for a symbol that is not watched.
abbrev pub looked : State → List ℕ → Result View Returned
looked s symbol = cond (waits s) (Err (alone 8)) (view_of symbol s.slots)
