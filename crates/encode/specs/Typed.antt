-- Fields as the types of the code have them, which makes them fit their places.
use Rattle.std.specs.Prelude.{◌≡◌, ◌^◌, ◌<◌, length}
use Rattle.messages.specs.Content.{Content, quote, imbalance, event}
use Rattle.messages.specs.declared.fields.QuoteFields.{QuoteFields}
use Rattle.messages.specs.declared.fields.ImbalanceFields.{ImbalanceFields}
use Rattle.messages.specs.declared.fields.EventFields.{EventFields}
use Rattle.messages.specs.declared.fields.EventForm.{EventForm}
use Rattle.messages.specs.declared.fields.EventForm.TheVariants.{Numbered, Underlying, Reset}

abbrev pub TypedForm : EventForm → Type 0
TypedForm (Numbered number symbol code) = (number < 2 ^ 32) × (length symbol ≡ 8)
TypedForm (Underlying code) = Unit {0}
TypedForm Reset = Unit {0}

pub record TypedQuote (q : QuoteFields) : Type 0 where
  pub stamp : q.stamp < 2 ^ 32
  pub number : q.number < 2 ^ 32
  pub symbol : length q.symbol ≡ 8
  pub contracts : q.contracts < 2 ^ 32
  pub price : q.price < 2 ^ 32

pub record TypedImbalance (i : ImbalanceFields) : Type 0 where
  pub stamp : i.stamp < 2 ^ 32
  pub number : i.number < 2 ^ 32
  pub symbol : length i.symbol ≡ 8
  pub time : i.time < 2 ^ 16
  pub contracts : i.contracts < 2 ^ 32
  pub price : i.price < 2 ^ 32
  pub total : i.total < 2 ^ 32
  pub market : i.market < 2 ^ 32

pub record TypedEvent (e : EventFields) : Type 0 where
  pub stamp : e.stamp < 2 ^ 32
  pub form : TypedForm e.form

abbrev pub Typed : Content → Type 0
Typed (quote q) = TypedQuote q
Typed (imbalance i) = TypedImbalance i
Typed (event e) = TypedEvent e
