-- The published value of each case, and which values are read as a case.
use Rattle.std.specs.Prelude.{◌≡◌, ℕ, ◌&&◌, List, [], ◌∷◌, ◌++◌, map, Option, Result, ◌==◌, nat_eq}
use Rattle.std.specs.List.{find}
use Rattle.std.specs.Result.{result_ok}
use Rattle.codes.specs.declared.unknown.UnknownCode.{UnknownCode}
use Rattle.codes.specs.declared.packet.PacketType.{PacketType}
use Rattle.codes.specs.declared.packet.PacketType.TheVariants as packet
use Rattle.codes.specs.declared.message.MessageType.{MessageType}
use Rattle.codes.specs.declared.message.MessageType.TheVariants as message
use Rattle.codes.specs.declared.quote.Side.{Side}
use Rattle.codes.specs.declared.quote.Side.TheVariants as side
use Rattle.codes.specs.declared.quote.Level.{Level}
use Rattle.codes.specs.declared.quote.Level.TheVariants as level
use Rattle.codes.specs.declared.auction.Auction.{Auction}
use Rattle.codes.specs.declared.auction.Auction.TheVariants as auction
use Rattle.codes.specs.declared.event.SeriesEvent.{SeriesEvent}
use Rattle.codes.specs.declared.event.SeriesEvent.TheVariants as series
use Rattle.codes.specs.declared.event.UnderlyingEvent.{UnderlyingEvent}
use Rattle.codes.specs.declared.event.UnderlyingEvent.TheVariants as underlying
use Rattle.codes.specs.declared.event.EventCode.{EventCode}
use Rattle.codes.specs.declared.event.EventCode.TheVariants.{Series, Underlying, Reset}
use Rattle.codes.specs.declared.kind.KindCode.{KindCode}
use Rattle.codes.specs.declared.kind.KindCode.TheVariants as kind

-- the case whose code is the byte
abbrev pub coded : {E : Type 0} → (E → ℕ) → List E → ℕ → Option E
coded code cases byte = find (λ e. nat_eq byte (code e)) cases

-- a byte is read as that case, or is no code
abbrev pub IsRead : {E : Type 0} → (E → ℕ) → List E → ℕ → Result E UnknownCode → Type 0
IsRead code cases byte answer = result_ok answer ≡ coded code cases byte

abbrev pub side_code : Side → ℕ
side_code side.Bid = 66
side_code side.Offer = 83

abbrev pub sides : List Side
sides = side.Bid ∷ side.Offer ∷ []

abbrev pub level_number : Level → ℕ
level_number level.First = 1
level_number level.Second = 2
level_number level.Third = 3
level_number level.Fourth = 4
level_number level.Fifth = 5

abbrev pub levels : List Level
levels = level.First ∷ level.Second ∷ level.Third ∷ level.Fourth ∷ level.Fifth ∷ []

abbrev pub auction_code : Auction → ℕ
auction_code auction.Open = 79
auction_code auction.Market = 77
auction_code auction.Halt = 72
auction_code auction.Closing = 67

abbrev pub auctions : List Auction
auctions = auction.Open ∷ auction.Market ∷ auction.Halt ∷ auction.Closing ∷ []

abbrev pub series_code : SeriesEvent → ℕ
series_code series.ClearOffer = 65
series_code series.ClearBid = 66
series_code series.ClearSeries = 67
series_code series.LightUp = 76
series_code series.DarkOpen = 78
series_code series.Open = 79
series_code series.Halt = 83
series_code series.DarkUnhalt = 84
series_code series.Unhalt = 85
series_code series.Close = 88

abbrev pub series_events : List SeriesEvent
series_events = series.ClearOffer ∷ series.ClearBid ∷ series.ClearSeries ∷ series.LightUp ∷ series.DarkOpen ∷ series.Open ∷ series.Halt ∷ series.DarkUnhalt ∷ series.Unhalt ∷ series.Close ∷ []

abbrev pub underlying_code : UnderlyingEvent → ℕ
underlying_code underlying.Open = 111
underlying_code underlying.Halt = 115
underlying_code underlying.Unhalt = 117
underlying_code underlying.Close = 120

abbrev pub underlying_events : List UnderlyingEvent
underlying_events = underlying.Open ∷ underlying.Halt ∷ underlying.Unhalt ∷ underlying.Close ∷ []

-- an event's two bytes: its event code, and its reset code, C but for the reset's R
abbrev pub event_byte : EventCode → ℕ
event_byte (Series code) = series_code code
event_byte (Underlying code) = underlying_code code
event_byte Reset = 73

abbrev pub reset_byte : EventCode → ℕ
reset_byte (Series code) = 67
reset_byte (Underlying code) = 67
reset_byte Reset = 82

abbrev pub events : List EventCode
events = map Series series_events ++ (map Underlying underlying_events ++ (Reset ∷ []))

-- an event's two bytes, and the event whose they are
abbrev pub event_codes : EventCode → ℕ × ℕ
event_codes e = (event_byte e, reset_byte e)

unfoldable pub event_code : ℕ → ℕ → Option EventCode
event_code event reset = find (λ e. (reset == reset_byte e) && event == event_byte e) events

abbrev pub packet_code : PacketType → ℕ
packet_code packet.Messages = 77
packet_code packet.Heartbeat = 66

abbrev pub packet_types : List PacketType
packet_types = packet.Messages ∷ packet.Heartbeat ∷ []

abbrev pub message_code : MessageType → ℕ
message_code message.Quote = 113
message_code message.Imbalance = 105
message_code message.Event = 118

abbrev pub message_types : List MessageType
message_types = message.Quote ∷ message.Imbalance ∷ message.Event ∷ []

abbrev pub kind_code : KindCode → ℕ
kind_code kind.Depth = 68
kind_code kind.Top = 84
kind_code kind.Imbalance = 73

abbrev pub kinds : List KindCode
kinds = kind.Depth ∷ kind.Top ∷ kind.Imbalance ∷ []
