-- The worked scenarios that are proved, as one table.
use Rattle.std.specs.Prelude.{◌≡◌, ℕ, List, [], ◌∷◌, ◌++◌, length}
use Rattle.codes.specs.declared.quote.Side.{Side}
use Rattle.codes.specs.declared.quote.Side.TheVariants as side
use Rattle.codes.specs.declared.quote.Level.{Level}
use Rattle.codes.specs.declared.quote.Level.TheVariants.{Second, Third, Fourth, Fifth}
use Rattle.messages.specs.Content.{quote}
use Rattle.messages.specs.declared.fields.QuoteFields.{QuoteFields}
use Rattle.kinds.specs.declared.book.PriceLevel.{PriceLevel}
use Rattle.kinds.specs.Levels.{numbers}
use Rattle.kinds.specs.Meaning.{Meaning}

-- a level by its price and its contracts
abbrev pub at : ℕ → ℕ → PriceLevel
at price contracts = record { price = price; contracts = contracts }

-- a side of five levels
abbrev pub five : (a b c d e : PriceLevel) → List PriceLevel
five a b c d e = a ∷ b ∷ c ∷ d ∷ e ∷ []

pub data Scenario : Type 0 where
  -- one side of a book before a quote, the quote, and that side after it
  book : (on : Side) (before : List PriceLevel) (delete insert : Level) (new : PriceLevel) (after : List PriceLevel) → Scenario

abbrev pub scenarios : List Scenario
scenarios =
    book side.Bid (five (at 10 1000) (at 8 1000) (at 6 200) (at 4 3000) (at 2 400)) Third Third (at 7 500)
    (five (at 10 1000) (at 8 1000) (at 7 500) (at 4 3000) (at 2 400))
    ∷ book side.Offer (five (at 2 1000) (at 4 1000) (at 6 200) (at 8 3000) (at 10 400)) Second Fourth (at 9 500)
    (five (at 2 1000) (at 6 200) (at 8 3000) (at 9 500) (at 10 400))
    ∷ book side.Bid (five (at 10 1000) (at 8 1000) (at 6 200) (at 4 3000) (at 2 400)) Fourth Second (at 9 500)
    (five (at 10 1000) (at 9 500) (at 8 1000) (at 6 200) (at 2 400))
    ∷ book side.Bid (five (at 10 1000) (at 8 1000) (at 6 200) (at 0 0) (at 0 0)) Second Third (at 0 0)
    (five (at 10 1000) (at 6 200) (at 0 0) (at 0 0) (at 0 0))
    ∷ book side.Bid (five (at 10 1000) (at 6 200) (at 0 0) (at 0 0) (at 0 0)) Fifth Second (at 8 1000)
    (five (at 10 1000) (at 8 1000) (at 6 200) (at 0 0) (at 0 0))
    ∷ []

-- the numbers of a book, by one side and the other
abbrev pub book_with : Side → List PriceLevel → List PriceLevel → List ℕ
book_with side.Bid this other = numbers this ++ numbers other
book_with side.Offer this other = numbers other ++ numbers this

-- the quote of a row, whatever its stamp, number and symbol
abbrev pub quote_of : (on : Side) (delete insert : Level) (new : PriceLevel) (stamp number : ℕ) (symbol : List ℕ) → QuoteFields
quote_of on delete insert new stamp number symbol =
    record { stamp = stamp; number = number; symbol = symbol; side = on; insert = insert; delete = delete; contracts = new.contracts; price = new.price }

-- a row holds of a meaning, with any five levels on the other side
abbrev pub Holds : Meaning → Scenario → Type 0
Holds m (book on before delete insert new after) =
    (other : List PriceLevel) → length other ≡ 5 → (stamp number : ℕ) (symbol : List ℕ) →
    m.step (book_with on before other) (quote (quote_of on delete insert new stamp number symbol)) ≡ book_with on after other

abbrev pub AllHold : Meaning → List Scenario → Type 0
AllHold m [] = Unit {0}
AllHold m (s ∷ rest) = Holds m s × AllHold m rest
