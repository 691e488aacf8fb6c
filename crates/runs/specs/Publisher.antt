-- What an honest session sends, and what its publisher keeps of each series.
use Rattle.std.specs.Prelude.{◌≡◌, ℕ, suc, true, false, cond, List, [], ◌∷◌, ◌++◌, map, take, Some, None, Option, ◌≢◌}
use Rattle.std.specs.Str.{bytes_eq}
use Rattle.messages.specs.Content.{Content, stamp_in}
use Rattle.kinds.specs.Meaning.{Meaning}
use Rattle.runs.specs.Taking.{Numbered, numbered}
use Rattle.runs.specs.Verdicts.{is_reset}
use Rattle.runs.specs.States.{Packet}

-- the numbered messages of a packet, in order
abbrev pub also : Option Numbered → List Numbered → List Numbered
also (Some m) ms = m ∷ ms
also None ms = ms

abbrev pub numbered_in : List Content → List Numbered
numbered_in [] = []
numbered_in (c ∷ cs) = also (numbered c) (numbered_in cs)

abbrev pub messages_of : Packet → List Numbered
messages_of p = numbered_in p.contents

-- those of a series
abbrev pub of_series : List ℕ → List Numbered → List Numbered
of_series x [] = []
of_series x (m ∷ ms) = cond (bytes_eq m.symbol x) (m ∷ of_series x ms) (of_series x ms)

-- the messages of a series in some packets
abbrev pub within : List ℕ → List Packet → List Numbered
within x [] = []
within x (p ∷ ps) = of_series x (messages_of p) ++ within x ps

-- numbered n, n + 1, and so on
abbrev pub Counting : ℕ → List ℕ → Type 0
Counting n [] = Unit {0}
Counting n (k ∷ ks) = (k ≡ n) × Counting (suc n) ks

-- a stands in a list
pub record In {A : Type 0} (a : A) (l : List A) : Type 0 where
  pub before : List A
  pub rest : List A
  pub is : l ≡ before ++ (a ∷ rest)

-- messages that are no reset and belong
abbrev pub AllPlain : Meaning → List Content → Type 0
AllPlain K [] = Unit {0}
AllPlain K (c ∷ cs) = (is_reset c ≡ false) × (K.belongs c ≡ true) × AllPlain K cs

-- what packet 1 says: a reset with the session's stamp, and then such messages
pub record Opens (K : Meaning) (stamp : ℕ) (cs : List Content) : Type 0 where
  pub reset : Content
  pub rest : List Content
  pub is : cs ≡ reset ∷ rest
  pub resets : is_reset reset ≡ true
  pub stamped : stamp_in reset ≡ stamp
  pub plain : AllPlain K rest

-- An honest session: its packets are numbered 1, 2, 3 and so on, and so are the messages of each series, in the order
-- sent; packet 1 starts with the reset, which stands nowhere else; every other message belongs.
pub record Honest (K : Meaning) (sent : List Packet) : Type 0 where
  pub packets : Counting 1 (map (λ (p : Packet). p.number) sent)
  pub messages : (x : List ℕ) → Counting 1 (map (λ (m : Numbered). m.number) (within x sent))
  pub stamp : ℕ
  pub opening : (p : Packet) → In p sent → p.number ≡ 1 → Opens K stamp p.contents
  pub later : (p : Packet) → In p sent → (p.number ≢ 1) → AllPlain K p.contents

-- a record stepped by some messages
abbrev pub stepped : Meaning → List ℕ → List Numbered → List ℕ
stepped K r [] = r
stepped K r (m ∷ ms) = stepped K (K.step r m.content) ms

-- the publisher's record of a series after its message n
abbrev pub published : Meaning → List Packet → List ℕ → ℕ → List ℕ
published K sent x n = stepped K K.empty (take n (within x sent))
