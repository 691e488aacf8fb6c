-- What a message says, whatever bytes it came in.
use Rattle.std.specs.Prelude.{ℕ, List, Some, None, Option}
use Rattle.messages.specs.declared.fields.QuoteFields.{QuoteFields}
use Rattle.messages.specs.declared.fields.ImbalanceFields.{ImbalanceFields}
use Rattle.messages.specs.declared.fields.EventFields.{EventFields}
use Rattle.messages.specs.declared.fields.EventForm.{EventForm}
use Rattle.messages.specs.declared.fields.EventForm.TheVariants.{Numbered, Underlying, Reset}
use Rattle.codes.specs.declared.event.EventCode.{EventCode}
use Rattle.codes.specs.declared.event.EventCode.TheVariants as both

pub data Content : Type 0 where
  quote : QuoteFields → Content
  imbalance : ImbalanceFields → Content
  event : EventFields → Content

-- how many bytes the message has
abbrev pub size : Content → ℕ
size (quote q) = 52
size (imbalance i) = 60
size (event e) = 44

abbrev pub stamp_in : Content → ℕ
stamp_in (quote q) = q.stamp
stamp_in (imbalance i) = i.stamp
stamp_in (event e) = e.stamp

-- the number and the symbol of a message of a series
abbrev pub form_name : EventForm → Option (ℕ × List ℕ)
form_name (Numbered number symbol code) = Some (number, symbol)
form_name (Underlying code) = None
form_name Reset = None

abbrev pub name_in : Content → Option (ℕ × List ℕ)
name_in (quote q) = Some (q.number, q.symbol)
name_in (imbalance i) = Some (i.number, i.symbol)
name_in (event e) = form_name e.form

-- which event it is, by its two codes
abbrev pub form_code : EventForm → EventCode
form_code (Numbered number symbol code) = both.Series code
form_code (Underlying code) = both.Underlying code
form_code Reset = both.Reset
