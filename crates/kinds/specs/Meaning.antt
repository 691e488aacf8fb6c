-- What a kind of record means.
use Rattle.std.specs.Prelude.{◌≡◌, ℕ, Bool, true, List}
use Rattle.messages.specs.Content.{Content}

-- The empty record, which messages belong, which settle, and what a message makes of a record.
-- The law: a message that settles makes the same of every record.
pub record Meaning : Type 0 where
  pub empty : List ℕ
  pub belongs : Content → Bool
  pub settles : Content → Bool
  pub step : List ℕ → Content → List ℕ
  pub law : (c : Content) → settles c ≡ true → (r r' : List ℕ) → step r c ≡ step r' c
