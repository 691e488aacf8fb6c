-- Levels in a list, counted from 1, the best one first.
use Rattle.std.specs.Prelude.{◌≡◌, ℕ, zero, suc, ◌*◌, ◌<◌, ◌≤◌, false, List, [], ◌∷◌, length, Some, None, Option, ◌==◌, refl}
use Rattle.std.specs.List.{insert, remove, slice_get, flat_map}
use Rattle.std.proofs.Common.{ap, sym, ◌∙◌}
use Rattle.std.proofs.Math.Nat.{suc-mul}
use Rattle.std.proofs.Math.Numerals.{add-two}
use Rattle.messages.specs.declared.fields.QuoteFields.{QuoteFields}
use Rattle.kinds.specs.declared.book.PriceLevel.{PriceLevel}

-- without the level of a number; there is no level 0
abbrev pub removed : {X : Type 0} → ℕ → List X → List X
removed zero xs = xs
removed (suc before) xs = remove xs before

-- with x as the level of a number
abbrev pub inserted : {X : Type 0} → ℕ → X → List X → List X
inserted zero x xs = xs
inserted (suc before) x xs = insert xs before x

-- the delete level goes, then the new one comes in as the insert level
abbrev pub moved : {X : Type 0} → ℕ → ℕ → X → List X → List X
moved delete insert x xs = inserted insert x (removed delete xs)

-- level k, where there is one
abbrev pub level : {X : Type 0} → ℕ → List X → Option X
level zero xs = None
level (suc k) xs = slice_get xs k

-- What a change means for each level. Together the laws fix every level of the side after it.
pub record Change {X : Type 0} (delete insert : ℕ) (new : X) (before after : List X) : Type 0 where
  -- five levels stay five
  pub five : (length before ≡ 5) × (length after ≡ 5)
  -- the new level stands as the insert level
  pub stands : level insert after ≡ Some new
  -- levels before both places stay, and levels behind both
  pub ahead : (k : ℕ) → k < delete → k < insert → level k after ≡ level k before
  pub behind : (k : ℕ) → delete < k → insert < k → level k after ≡ level k before
  -- levels between the two places move by one, towards the one that went
  pub up : (k : ℕ) → delete ≤ k → k < insert → level k after ≡ level (suc k) before
  pub down : (k : ℕ) → insert ≤ k → k < delete → level (suc k) after ≡ level k before
  -- equal levels: just that one is replaced
  pub alone : delete ≡ insert → (k : ℕ) → (k == delete) ≡ false → level k after ≡ level k before

-- a level as numbers, the price before the contracts
abbrev pub level_shown : PriceLevel → List ℕ
level_shown l = l.price ∷ l.contracts ∷ []

abbrev pub numbers : List PriceLevel → List ℕ
numbers ls = flat_map level_shown ls

length-numbers : (ls : List PriceLevel) → length (numbers ls) ≡ length ls * 2
length-numbers [] = refl
length-numbers (l ∷ ls) = ap (λ n. suc (suc n)) (length-numbers ls) ∙ sym (add-two (length ls * 2)) ∙ sym (suc-mul (length ls) 2)

-- five levels are ten numbers
pub ten : (ls : List PriceLevel) → length ls ≡ 5 → length (numbers ls) ≡ 10
ten ls five = length-numbers ls ∙ ap (λ n. n * 2) five

-- the levels of such numbers; an odd last number is of none
abbrev pub levels_in : List ℕ → List PriceLevel
levels_in [] = []
levels_in (p ∷ []) = []
levels_in (p ∷ n ∷ ns) = record { price = p; contracts = n } ∷ levels_in ns

-- no level: price 0, and no contracts
abbrev pub no_level : PriceLevel
no_level = record { price = 0; contracts = 0 }

-- the level that a quote brings
abbrev pub new_level : QuoteFields → PriceLevel
new_level q = record { price = q.price; contracts = q.contracts }
