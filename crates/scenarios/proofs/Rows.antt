-- The rows of the table.
use Rattle.std.proofs.Common.{◌≡◌, List, [], ◌∷◌, ◌++◌, length, refl, ap, ◌∙◌}
use Rattle.codes.specs.Codes.{level_number}
use Rattle.codes.specs.declared.quote.Side.TheVariants as side
use Rattle.kinds.specs.Meaning.{Meaning}
use Rattle.kinds.specs.Rules.{DepthRules}
use Rattle.kinds.specs.Levels.{numbers, moved}
use Rattle.scenarios.specs.Table.{Scenario, book, scenarios, quote_of, Holds, AllHold}

-- what is left to compute of a row
abbrev Due : Scenario → Type 0
Due (book on before delete insert new after) = (length before ≡ 5) × (moved (level_number delete) (level_number insert) new before ≡ after)

abbrev AllDue : List Scenario → Type 0
AllDue [] = Unit {0}
AllDue (s ∷ rest) = Due s × AllDue rest

-- of every meaning that keeps the rules of Depth
module _ (m : Meaning) (rules : DepthRules m) where
  row : (s : Scenario) → Due s → Holds m s
  row (book side.Bid before delete insert new after) due = λ other h stamp number symbol.
      rules.bid (quote_of side.Bid delete insert new stamp number symbol) refl before other due.0 ∙ ap (λ ls. numbers ls ++ numbers other) due.1
  row (book side.Offer before delete insert new after) due = λ other h stamp number symbol.
      rules.offer (quote_of side.Offer delete insert new stamp number symbol) refl other before h ∙ ap (λ ls. numbers other ++ numbers ls) due.1

  rows : (ss : List Scenario) → AllDue ss → AllHold m ss
  rows [] due = tt
  rows (s ∷ rest) due = (row s due.0, rows rest due.1)

  pub all_hold : AllHold m scenarios
  all_hold = rows scenarios ((refl, refl), ((refl, refl), ((refl, refl), ((refl, refl), ((refl, refl), tt)))))
