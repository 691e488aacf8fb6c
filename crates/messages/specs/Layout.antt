-- The layout of messages: which field stands at which offset. Bytes that no line names are not read, and may hold
-- anything.
use Rattle.std.specs.Prelude.{◌≡◌, ℕ, ◌<◌, ◌≤◌, List, ◌++◌, length, replicate, slice_index}
use Rattle.codes.specs.Codes.{side_code, level_number, auction_code, series_code, underlying_code}
use Rattle.messages.specs.Content.{Content, quote, imbalance, event}
use Rattle.messages.specs.Wire.{byte, be16, be32, part}
use Rattle.messages.specs.declared.fields.QuoteFields.{QuoteFields}
use Rattle.messages.specs.declared.fields.ImbalanceFields.{ImbalanceFields}
use Rattle.messages.specs.declared.fields.EventFields.{EventFields}
use Rattle.messages.specs.declared.fields.EventForm.{EventForm}
use Rattle.messages.specs.declared.fields.EventForm.TheVariants.{Numbered, Underlying, Reset}

-- a number of an M packet or of a numbered message
pub record Number (n : ℕ) : Type 0 where
  pub low : 1 ≤ n
  pub high : n ≤ 4294967294

-- a symbol: 1 to 8 printable bytes, and nulls up to the eighth
pub record Symbol (field : List ℕ) : Type 0 where
  pub name : List ℕ
  pub padding : ℕ
  pub spelled : field ≡ name ++ replicate padding 0
  pub eight : length field ≡ 8
  pub some : 1 ≤ length name
  pub printable : (i : ℕ) → i < length name → (33 ≤ slice_index name i) × (slice_index name i ≤ 126)

-- the header of a message
pub record MessageHeader (len type subscription stamp : ℕ) (bytes : List ℕ) : Type 0 where
  pub all : length bytes ≡ len
  pub length_field : be16 bytes 0 ≡ len
  pub type_field : byte bytes 2 ≡ type
  pub subscription_field : byte bytes 3 ≡ subscription
  pub stamp_field : be32 bytes 4 ≡ stamp

-- the number and the symbol of a numbered message
pub record Named (number : ℕ) (symbol : List ℕ) (bytes : List ℕ) : Type 0 where
  pub number_field : be32 bytes 8 ≡ number
  pub symbol_field : part bytes 32 8 ≡ symbol
  pub number_good : Number number
  pub symbol_good : Symbol symbol

pub record LaidQuote (subscription : ℕ) (bytes : List ℕ) (q : QuoteFields) : Type 0 where
  pub header : MessageHeader 52 113 subscription q.stamp bytes
  pub named : Named q.number q.symbol bytes
  pub side_field : byte bytes 41 ≡ side_code q.side
  pub insert_field : byte bytes 42 ≡ level_number q.insert
  pub delete_field : byte bytes 43 ≡ level_number q.delete
  pub contracts_field : be32 bytes 44 ≡ q.contracts
  pub price_field : be32 bytes 48 ≡ q.price

pub record LaidImbalance (subscription : ℕ) (bytes : List ℕ) (i : ImbalanceFields) : Type 0 where
  pub header : MessageHeader 60 105 subscription i.stamp bytes
  pub named : Named i.number i.symbol bytes
  pub auction_field : byte bytes 41 ≡ auction_code i.auction
  pub time_field : be16 bytes 42 ≡ i.time
  pub contracts_field : be32 bytes 44 ≡ i.contracts
  pub price_field : be32 bytes 48 ≡ i.price
  pub total_field : be32 bytes 52 ≡ i.total
  pub market_field : be32 bytes 56 ≡ i.market
  pub time_good : i.time ≤ 2400

-- the reset code is C, but for the reset itself, which has R
abbrev pub LaidForm : List ℕ → EventForm → Type 0
LaidForm bytes (Numbered number symbol code) = Named number symbol bytes × (byte bytes 42 ≡ series_code code) × (byte bytes 43 ≡ 67)
LaidForm bytes (Underlying code) = (byte bytes 42 ≡ underlying_code code) × (byte bytes 43 ≡ 67)
LaidForm bytes Reset = (byte bytes 42 ≡ 73) × (byte bytes 43 ≡ 82)

pub record LaidEvent (subscription : ℕ) (bytes : List ℕ) (e : EventFields) : Type 0 where
  pub header : MessageHeader 44 118 subscription e.stamp bytes
  pub codes : LaidForm bytes e.form

abbrev pub LaidMessage : ℕ → List ℕ → Content → Type 0
LaidMessage subscription bytes (quote q) = LaidQuote subscription bytes q
LaidMessage subscription bytes (imbalance i) = LaidImbalance subscription bytes i
LaidMessage subscription bytes (event e) = LaidEvent subscription bytes e

-- the bytes start with a message
pub record Begins (subscription : ℕ) (bytes : List ℕ) (c : Content) : Type 0 where
  pub own : List ℕ
  pub rest : List ℕ
  pub joined : bytes ≡ own ++ rest
  pub laid : LaidMessage subscription own c
