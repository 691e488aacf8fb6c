-- A message that borrows its bytes: which they are, and what they say.
use Rattle.std.specs.Prelude.{ℕ, List}
use Rattle.messages.specs.Content.{Content, quote, imbalance, event}
use Rattle.messages.specs.Verdict.{quote_fields, imbalance_fields, event_fields}
use Rattle.messages.specs.declared.message.Message.{Message}
use Rattle.messages.specs.declared.message.Message.TheVariants.{Quote, Imbalance, Event}

abbrev pub own_bytes : Message → List ℕ
own_bytes (Quote q) = q.bytes.now
own_bytes (Imbalance i) = i.bytes.now
own_bytes (Event e) = e.bytes.now

abbrev pub content : Message → Content
content (Quote q) = quote (quote_fields q.bytes.now)
content (Imbalance i) = imbalance (imbalance_fields i.bytes.now)
content (Event e) = event (event_fields e.bytes.now)
