-- Books of two sides, as values and as their numbers: the bid's before the offer's.
use Rattle.std.specs.Prelude.{◌≡◌, ℕ, Bool, true, false, cond, ◌||◌, List, ◌++◌, take, drop, replicate, ◌==◌, refl}
use Rattle.std.proofs.lemmas.Bool.{eqb-true, false≢true}
use Rattle.codes.specs.Codes.{event_byte}
use Rattle.codes.specs.declared.quote.Side.{Side}
use Rattle.codes.specs.declared.quote.Side.TheVariants as side
use Rattle.messages.specs.Content.{Content, quote, imbalance, event, form_code}
use Rattle.messages.specs.declared.fields.EventForm.{EventForm}
use Rattle.messages.specs.declared.fields.QuoteFields.{QuoteFields}
use Rattle.kinds.specs.declared.book.Book.{Book}
use Rattle.kinds.specs.Meaning.{Meaning}

-- a book as numbers, by those of a side
abbrev pub shown : {S : Type 0} → (S → List ℕ) → Book S → List ℕ
shown side b = side b.bid ++ side b.offer

-- the event code
abbrev pub code_of : EventForm → ℕ
code_of f = event_byte (form_code f)

-- B and C empty the bid, A and C the offer; no other event empties anything
abbrev pub empties_bid : EventForm → Bool
empties_bid f = code_of f == 66 || code_of f == 67

abbrev pub empties_offer : EventForm → Bool
empties_offer f = code_of f == 65 || code_of f == 67

-- the numbers of a book after an event, so many for each side
abbrev pub cleared : ℕ → EventForm → List ℕ → List ℕ
cleared width f ns =
    cond (empties_bid f) (replicate width 0) (take width ns) ++ cond (empties_offer f) (replicate width 0) (drop width ns)

-- one side's numbers changed, so many for each side
abbrev pub on_side : ℕ → Side → (List ℕ → List ℕ) → List ℕ → List ℕ
on_side width side.Bid change ns = change (take width ns) ++ drop width ns
on_side width side.Offer change ns = take width ns ++ change (drop width ns)

-- C leaves nothing of what was
abbrev pub clears_all : EventForm → Bool
clears_all f = code_of f == 67

-- what settles a book: that event, and nothing else
abbrev pub book_settles : Content → Bool
book_settles (quote q) = false
book_settles (imbalance i) = false
book_settles (event e) = clears_all e.form

pub clears_same : (width : ℕ) (f : EventForm) → clears_all f ≡ true → (r r' : List ℕ) → cleared width f r ≡ cleared width f r'
clears_same width f e r r' = let code = eqb-true (code_of f) 67 e in rw (code) refl

-- A kind of book: so many numbers for each side, the quotes that it takes, and what one makes of the numbers of its side.
module _ (width : ℕ) (takes : QuoteFields → Bool) (after : QuoteFields → List ℕ → List ℕ) where
  abbrev pub book_belongs : Content → Bool
  book_belongs (quote q) = takes q
  book_belongs (imbalance i) = false
  book_belongs (event e) = true

  -- a quote that it takes changes its side, any other leaves the numbers
  abbrev pub after_quote : QuoteFields → List ℕ → List ℕ
  after_quote q ns = cond (takes q) (on_side width q.side (after q) ns) ns

  abbrev pub book_step : List ℕ → Content → List ℕ
  book_step ns (quote q) = after_quote q ns
  book_step ns (imbalance i) = ns
  book_step ns (event e) = cleared width e.form ns

  abbrev pub book_meaning : Meaning
  book_meaning =
      record {
        empty = replicate width 0 ++ replicate width 0;
        belongs = book_belongs;
        settles = book_settles;
        step = book_step;
        law = law;
      }
    where
      law : (c : Content) → book_settles c ≡ true → (r r' : List ℕ) → book_step r c ≡ book_step r' c
      law (quote q) e r r' = absurd (false≢true e)
      law (imbalance i) e r r' = absurd (false≢true e)
      law (event e) s r r' = clears_same width e.form s r r'
