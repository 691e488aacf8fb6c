-- What the first message of some bytes is read as, if it is not broken.
use Rattle.std.specs.Prelude.{ℕ, Bool, true, false, cond, ◌&&◌, List, length, take, is_some, Some, None, Ok, Err, Option, Result, ◌==◌, nat_le}
use Rattle.std.specs.Option.{unwrap_or}
use Rattle.codes.specs.Codes.{coded, sides, side_code, levels, level_number, auctions, auction_code, event_code}
use Rattle.messages.specs.Content.{Content, quote, imbalance, event}
use Rattle.codes.specs.Refusals.{Returned, placed}
use Rattle.messages.specs.Symbols.{well_formed}
use Rattle.messages.specs.Wire.{byte, be16, be32, part}
use Rattle.codes.specs.declared.quote.Side.{Side}
use Rattle.codes.specs.declared.quote.Side.TheVariants as side
use Rattle.codes.specs.declared.quote.Level.{Level}
use Rattle.codes.specs.declared.quote.Level.TheVariants as level
use Rattle.codes.specs.declared.auction.Auction.{Auction}
use Rattle.codes.specs.declared.auction.Auction.TheVariants as auction
use Rattle.codes.specs.declared.event.EventCode.{EventCode}
use Rattle.codes.specs.declared.event.EventCode.TheVariants.{Series, Underlying, Reset}
use Rattle.messages.specs.declared.fields.QuoteFields.{QuoteFields}
use Rattle.messages.specs.declared.fields.ImbalanceFields.{ImbalanceFields}
use Rattle.messages.specs.declared.fields.EventFields.{EventFields}
use Rattle.messages.specs.declared.fields.EventForm.{EventForm}
use Rattle.messages.specs.declared.fields.EventForm.TheVariants as form

-- a number that M packets and numbered messages carry
abbrev pub in_range : ℕ → Bool
in_range number = nat_le 1 number && nat_le number 4294967294

-- a number and a symbol that a message can carry
abbrev pub nameable : ℕ → List ℕ → Bool
nameable number symbol = in_range number && well_formed symbol

-- those of a message's own bytes
abbrev pub named : List ℕ → Bool
named own = nameable (be32 own 8) (part own 32 8)

abbrev pub side_at : List ℕ → ℕ → Option Side
side_at own at = coded side_code sides (byte own at)

abbrev pub level_at : List ℕ → ℕ → Option Level
level_at own at = coded level_number levels (byte own at)

abbrev pub auction_at : List ℕ → ℕ → Option Auction
auction_at own at = coded auction_code auctions (byte own at)

-- A quote's own 52 bytes: whether they are good, and their fields. A code that is none is taken for some case, so
-- that the fields are there for any bytes.
abbrev pub good_quote : List ℕ → Bool
good_quote own = named own && is_some (side_at own 41) && is_some (level_at own 42) && is_some (level_at own 43)

abbrev pub quote_fields : List ℕ → QuoteFields
quote_fields own =
    record {
      stamp = be32 own 4;
      number = be32 own 8;
      symbol = part own 32 8;
      side = unwrap_or (side_at own 41) side.Offer;
      insert = unwrap_or (level_at own 42) level.Fifth;
      delete = unwrap_or (level_at own 43) level.Fifth;
      contracts = be32 own 44;
      price = be32 own 48;
    }

-- an imbalance's own 60 bytes
abbrev pub good_imbalance : List ℕ → Bool
good_imbalance own = named own && is_some (auction_at own 41) && nat_le (be16 own 42) 2400

abbrev pub imbalance_fields : List ℕ → ImbalanceFields
imbalance_fields own =
    record {
      stamp = be32 own 4;
      number = be32 own 8;
      symbol = part own 32 8;
      auction = unwrap_or (auction_at own 41) auction.Closing;
      time = be16 own 42;
      contracts = be32 own 44;
      price = be32 own 48;
      total = be32 own 52;
      market = be32 own 56;
    }

-- an event's own 44 bytes
abbrev pub good_form : List ℕ → Option EventCode → Bool
good_form own None = false
good_form own (Some (Series code)) = named own
good_form own (Some (Underlying code)) = true
good_form own (Some Reset) = true

abbrev pub form_of : List ℕ → Option EventCode → EventForm
form_of own None = form.Reset
form_of own (Some (Series code)) = form.Numbered (be32 own 8) (part own 32 8) code
form_of own (Some (Underlying code)) = form.Underlying code
form_of own (Some Reset) = form.Reset

abbrev pub good_event : List ℕ → Bool
good_event own = good_form own (event_code (byte own 42) (byte own 43))

abbrev pub event_fields : List ℕ → EventFields
event_fields own = record { stamp = be32 own 4; form = form_of own (event_code (byte own 42) (byte own 43)) }

-- c, where the test passes
abbrev pub when : Bool → Content → Option Content
when true c = Some c
when false c = None

abbrev pub quote_in : List ℕ → Option Content
quote_in own = when (good_quote own) (quote (quote_fields own))

abbrev pub imbalance_in : List ℕ → Option Content
imbalance_in own = when (good_imbalance own) (imbalance (imbalance_fields own))

abbrev pub event_in : List ℕ → Option Content
event_in own = when (good_event own) (event (event_fields own))

-- a message of this length by its header, read from its own bytes, where they are all there
abbrev pub cut : ℕ → List ℕ → (List ℕ → Option Content) → Option Content
cut len bytes read = cond (be16 bytes 0 == len && nat_le len (length bytes)) (read (take len bytes)) None

-- the content of the first message of some bytes, by its type: q, i or v
unfoldable pub message : ℕ → List ℕ → Option Content
message subscription bytes =
    cond (byte bytes 3 == subscription)
    (cond (byte bytes 2 == 113) (cut 52 bytes quote_in)
    (cond (byte bytes 2 == 105) (cut 60 bytes imbalance_in)
    (cond (byte bytes 2 == 118) (cut 44 bytes event_in)
    None)))
    None

-- the same for bytes at an offset of a packet, or the refusal
abbrev pub judged : ℕ → Option Content → Result Content Returned
judged offset (Some c) = Ok c
judged offset None = Err (placed 5 offset)

abbrev pub verdict : (subscription offset : ℕ) → List ℕ → Result Content Returned
verdict subscription offset bytes = judged offset (message subscription bytes)
