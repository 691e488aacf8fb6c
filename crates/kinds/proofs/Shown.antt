-- Books and their numbers.
use Rattle.std.proofs.Common.{◌≡◌, ℕ, List, [], ◌∷◌, ◌++◌, length, refl, ap}
use Rattle.std.proofs.lemmas.List.{take_at, drop_at}
use Rattle.codes.specs.declared.quote.Side.TheVariants as side
use Rattle.kinds.specs.declared.book.PriceLevel.{PriceLevel}
use Rattle.kinds.specs.Levels.{numbers, levels_in}
use Rattle.kinds.specs.Books.{on_side}

pub levels_numbers : (ls : List PriceLevel) → levels_in (numbers ls) ≡ ls
levels_numbers [] = refl
levels_numbers (l ∷ ls) = ap (λ ms. l ∷ ms) (levels_numbers ls)

-- two lists joined, the first of a known length
module _ (w : ℕ) (xs ys : List ℕ) (fits : length xs ≡ w) where
  pub on_bid : (change : List ℕ → List ℕ) → on_side w side.Bid change (xs ++ ys) ≡ change xs ++ ys
  on_bid change = rw (take_at xs ys w fits, drop_at xs ys w fits) refl

  pub on_offer : (change : List ℕ → List ℕ) → on_side w side.Offer change (xs ++ ys) ≡ xs ++ change ys
  on_offer change = rw (take_at xs ys w fits, drop_at xs ys w fits) refl
