-- Imbalance: what the last imbalance message said.
use Rattle.std.specs.Prelude.{◌≡◌, ℕ, Bool, true, false, List, [], ◌∷◌, replicate, Some, None, Option, refl}
use Rattle.std.proofs.lemmas.Bool.{false≢true}
use Rattle.codes.specs.Codes.{auction_code}
use Rattle.codes.specs.declared.auction.Auction.{Auction}
use Rattle.messages.specs.Content.{Content, quote, imbalance, event}
use Rattle.messages.specs.declared.fields.ImbalanceFields.{ImbalanceFields}
use Rattle.kinds.specs.declared.imbalance.ImbalanceRecord.{ImbalanceRecord}
use Rattle.kinds.specs.Meaning.{Meaning}

-- the auction type by its code, 0 before the first message
abbrev pub auction_shown : Option Auction → ℕ
auction_shown None = 0
auction_shown (Some a) = auction_code a

-- what a record shows
abbrev pub imbalance_shown : ImbalanceRecord → List ℕ
imbalance_shown r = auction_shown r.auction ∷ r.time ∷ r.contracts ∷ r.price ∷ r.total ∷ r.market ∷ []

-- the record that a message makes
abbrev pub record_of : ImbalanceFields → ImbalanceRecord
record_of i = record { auction = Some i.auction; time = i.time; contracts = i.contracts; price = i.price; total = i.total; market = i.market }

-- imbalance messages alone belong, and each settles
abbrev pub is_imbalance : Content → Bool
is_imbalance (quote q) = false
is_imbalance (imbalance i) = true
is_imbalance (event e) = false

abbrev pub step : List ℕ → Content → List ℕ
step ns (quote q) = ns
step ns (imbalance i) = imbalance_shown (record_of i)
step ns (event e) = ns

abbrev pub imbalance_meaning : Meaning
imbalance_meaning = record { empty = replicate 6 0; belongs = is_imbalance; settles = is_imbalance; step = step; law = law }
  where
    law : (c : Content) → is_imbalance c ≡ true → (r r' : List ℕ) → step r c ≡ step r' c
    law (quote q) e r r' = absurd (false≢true e)
    law (imbalance i) e r r' = refl
    law (event e) s r r' = absurd (false≢true s)
