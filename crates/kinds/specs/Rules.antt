-- What the three meanings say, in plain clauses, whatever way they are written.
use Rattle.std.specs.Prelude.{◌≡◌, ℕ, ◌+◌, true, false, ◌&&◌, List, [], ◌∷◌, ◌++◌, length, replicate, ◌==◌}
use Rattle.codes.specs.Codes.{level_number, auction_code, event_byte}
use Rattle.codes.specs.declared.quote.Side.TheVariants.{Bid, Offer}
use Rattle.messages.specs.Content.{quote, imbalance, event, form_code}
use Rattle.messages.specs.declared.fields.QuoteFields.{QuoteFields}
use Rattle.messages.specs.declared.fields.ImbalanceFields.{ImbalanceFields}
use Rattle.messages.specs.declared.fields.EventFields.{EventFields}
use Rattle.kinds.specs.declared.book.PriceLevel.{PriceLevel}
use Rattle.kinds.specs.Meaning.{Meaning}
use Rattle.kinds.specs.Levels.{moved, numbers, new_level, Change}

-- Events, of a record with so many numbers for each side: A (65) empties the offer, B (66) the bid, C (67) both,
-- which settles; every other event leaves the record.
pub record EventRules (m : Meaning) (width : ℕ) : Type 0 where
  pub belong : (e : EventFields) → m.belongs (event e) ≡ true
  pub settle : (e : EventFields) → m.settles (event e) ≡ (event_byte (form_code e.form) == 67)
  pub offer : (e : EventFields) → event_byte (form_code e.form) ≡ 65 → (bids offers : List ℕ) → length bids ≡ width → m.step (bids ++ offers) (event e) ≡ bids ++ replicate width 0
  pub bid : (e : EventFields) → event_byte (form_code e.form) ≡ 66 → (bids offers : List ℕ) → length bids ≡ width → m.step (bids ++ offers) (event e) ≡ replicate width 0 ++ offers
  pub both : (e : EventFields) → event_byte (form_code e.form) ≡ 67 → (r : List ℕ) → m.step r (event e) ≡ replicate (width + width) 0
  pub others : (e : EventFields) → (event_byte (form_code e.form) == 65) ≡ false → (event_byte (form_code e.form) == 66) ≡ false → (event_byte (form_code e.form) == 67) ≡ false → (r : List ℕ) → m.step r (event e) ≡ r

-- Imbalances have no place in a book.
pub record NoImbalances (m : Meaning) : Type 0 where
  pub belong : (i : ImbalanceFields) → m.belongs (imbalance i) ≡ false
  pub settle : (i : ImbalanceFields) → m.settles (imbalance i) ≡ false
  pub step : (i : ImbalanceFields) (r : List ℕ) → m.step r (imbalance i) ≡ r

-- Depth: every quote belongs and none settles; its side loses the delete level, then gets the new one as the insert
-- level, and the other side stays.
pub record DepthRules (m : Meaning) : Type 0 where
  pub empty : m.empty ≡ replicate 20 0
  pub belong : (q : QuoteFields) → m.belongs (quote q) ≡ true
  pub settle : (q : QuoteFields) → m.settles (quote q) ≡ false
  pub bid : (q : QuoteFields) → q.side ≡ Bid → (bids offers : List PriceLevel) → length bids ≡ 5 → m.step (numbers bids ++ numbers offers) (quote q) ≡ numbers (moved (level_number q.delete) (level_number q.insert) (new_level q) bids) ++ numbers offers
  pub offer : (q : QuoteFields) → q.side ≡ Offer → (bids offers : List PriceLevel) → length bids ≡ 5 → m.step (numbers bids ++ numbers offers) (quote q) ≡ numbers bids ++ numbers (moved (level_number q.delete) (level_number q.insert) (new_level q) offers)
  pub imbalances : NoImbalances m
  pub events : EventRules m 10

-- Five levels as ten numbers, and what a quote means for each of them.
pub record LevelRules : Type 0 where
  pub written : (a b c d e : PriceLevel) → numbers (a ∷ b ∷ c ∷ d ∷ e ∷ []) ≡ a.price ∷ a.contracts ∷ b.price ∷ b.contracts ∷ c.price ∷ c.contracts ∷ d.price ∷ d.contracts ∷ e.price ∷ e.contracts ∷ []
  pub changed : (q : QuoteFields) (side : List PriceLevel) → length side ≡ 5 → Change (level_number q.delete) (level_number q.insert) (new_level q) side (moved (level_number q.delete) (level_number q.insert) (new_level q) side)

-- Top: quotes of both levels 1 belong, and replace their side; none settles.
pub record TopRules (m : Meaning) : Type 0 where
  pub empty : m.empty ≡ 0 ∷ 0 ∷ 0 ∷ 0 ∷ []
  pub belong : (q : QuoteFields) → m.belongs (quote q) ≡ (level_number q.insert == 1 && level_number q.delete == 1)
  pub settle : (q : QuoteFields) → m.settles (quote q) ≡ false
  pub bid : (q : QuoteFields) → q.side ≡ Bid → m.belongs (quote q) ≡ true → (p c p' c' : ℕ) → m.step (p ∷ c ∷ p' ∷ c' ∷ []) (quote q) ≡ q.price ∷ q.contracts ∷ p' ∷ c' ∷ []
  pub offer : (q : QuoteFields) → q.side ≡ Offer → m.belongs (quote q) ≡ true → (p c p' c' : ℕ) → m.step (p ∷ c ∷ p' ∷ c' ∷ []) (quote q) ≡ p ∷ c ∷ q.price ∷ q.contracts ∷ []
  pub others : (q : QuoteFields) → m.belongs (quote q) ≡ false → (r : List ℕ) → m.step r (quote q) ≡ r
  pub imbalances : NoImbalances m
  pub events : EventRules m 2

-- Imbalance: imbalances alone belong, each settles and replaces the record; quotes and events leave it.
pub record ImbalanceRules (m : Meaning) : Type 0 where
  pub empty : m.empty ≡ 0 ∷ 0 ∷ 0 ∷ 0 ∷ 0 ∷ 0 ∷ []
  pub belong : (i : ImbalanceFields) → m.belongs (imbalance i) ≡ true
  pub settle : (i : ImbalanceFields) → m.settles (imbalance i) ≡ true
  pub step : (i : ImbalanceFields) (r : List ℕ) → m.step r (imbalance i) ≡ auction_code i.auction ∷ i.time ∷ i.contracts ∷ i.price ∷ i.total ∷ i.market ∷ []
  pub quotes : (q : QuoteFields) → (m.belongs (quote q) ≡ false) × (m.settles (quote q) ≡ false) × ((r : List ℕ) → m.step r (quote q) ≡ r)
  pub events : (e : EventFields) → (m.belongs (event e) ≡ false) × (m.settles (event e) ≡ false) × ((r : List ℕ) → m.step r (event e) ≡ r)
