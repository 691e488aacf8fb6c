-- The bytes of a message, field after field, reserved bytes as null.
use Rattle.std.specs.Prelude.{ℕ, ◌/◌, ◌%◌, Bool, true, ◌&&◌, List, [], ◌∷◌, ◌++◌, replicate, nat_le}
use Rattle.codes.specs.Codes.{side_code, level_number, auction_code, event_byte, reset_byte}
use Rattle.messages.specs.Content.{Content, quote, imbalance, event, form_code}
use Rattle.messages.specs.Verdict.{nameable}
use Rattle.messages.specs.declared.fields.QuoteFields.{QuoteFields}
use Rattle.messages.specs.declared.fields.ImbalanceFields.{ImbalanceFields}
use Rattle.messages.specs.declared.fields.EventFields.{EventFields}
use Rattle.messages.specs.declared.fields.EventForm.{EventForm}
use Rattle.messages.specs.declared.fields.EventForm.TheVariants.{Numbered, Underlying, Reset}

-- numbers, the high byte first
abbrev pub bytes16 : ℕ → List ℕ
bytes16 n = (n / 256 % 256) ∷ (n % 256) ∷ []

abbrev pub bytes32 : ℕ → List ℕ
bytes32 n = (n / 16777216 % 256) ∷ (n / 65536 % 256) ∷ (n / 256 % 256) ∷ (n % 256) ∷ []

abbrev pub nulls : ℕ → List ℕ
nulls n = replicate n 0

-- the first eight bytes of a message, with its stamp, and of a packet, with its number
abbrev pub header_bytes : (len type subscription last : ℕ) → List ℕ
header_bytes len type subscription last = bytes16 len ++ (type ∷ subscription ∷ bytes32 last)

-- number and symbol, up to the field at 40
abbrev pub named_bytes : ℕ → List ℕ → List ℕ
named_bytes number symbol = bytes32 number ++ nulls 20 ++ symbol

abbrev pub quote_tail : QuoteFields → List ℕ
quote_tail q = 0 ∷ side_code q.side ∷ level_number q.insert ∷ level_number q.delete ∷ (bytes32 q.contracts ++ bytes32 q.price)

abbrev pub quote_bytes : ℕ → QuoteFields → List ℕ
quote_bytes subscription q = header_bytes 52 113 subscription q.stamp ++ named_bytes q.number q.symbol ++ quote_tail q

abbrev pub imbalance_tail : ImbalanceFields → List ℕ
imbalance_tail i = 0 ∷ auction_code i.auction ∷ (bytes16 i.time ++ bytes32 i.contracts ++ bytes32 i.price ++ bytes32 i.total ++ bytes32 i.market)

abbrev pub imbalance_bytes : ℕ → ImbalanceFields → List ℕ
imbalance_bytes subscription i = header_bytes 60 105 subscription i.stamp ++ named_bytes i.number i.symbol ++ imbalance_tail i

-- the reset and the events of an underlying have no number and no symbol
abbrev pub form_named : EventForm → List ℕ
form_named (Numbered number symbol code) = named_bytes number symbol
form_named (Underlying code) = nulls 32
form_named Reset = nulls 32

abbrev pub form_tail : EventForm → List ℕ
form_tail f = 0 ∷ 0 ∷ event_byte (form_code f) ∷ reset_byte (form_code f) ∷ []

abbrev pub event_bytes : ℕ → EventFields → List ℕ
event_bytes subscription e = header_bytes 44 118 subscription e.stamp ++ form_named e.form ++ form_tail e.form

unfoldable pub encoded : ℕ → Content → List ℕ
encoded subscription (quote q) = quote_bytes subscription q
encoded subscription (imbalance i) = imbalance_bytes subscription i
encoded subscription (event e) = event_bytes subscription e

-- whether the fields can be written: a number in its range, a well-formed symbol, a time up to 2400
abbrev pub writable_form : EventForm → Bool
writable_form (Numbered number symbol code) = nameable number symbol
writable_form (Underlying code) = true
writable_form Reset = true

unfoldable pub writable : Content → Bool
writable (quote q) = nameable q.number q.symbol
writable (imbalance i) = nameable i.number i.symbol && nat_le i.time 2400
writable (event e) = writable_form e.form
