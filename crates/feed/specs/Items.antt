-- The messages of a packet with their offsets, up to the first that is broken.
use Rattle.std.specs.Prelude.{ℕ, zero, suc, ◌+◌, List, [], ◌∷◌, length, drop, Some, None, Ok, Err, Option, Result}
use Rattle.messages.specs.Content.{Content, size}
use Rattle.codes.specs.Refusals.{Returned}
use Rattle.messages.specs.Verdict.{verdict}

pub data Item : Type 0 where
  good : (offset : ℕ) → Content → Item
  refused : Returned → Item

-- the message at an offset, and those after it
abbrev pub item_then : ℕ → Result Content Returned → (Content → List Item) → List Item
item_then offset (Ok c) rest = good offset c ∷ rest c
item_then offset (Err e) rest = refused e ∷ []

-- at most so many messages of the bytes, which stand at an offset of the packet
abbrev pub at_most : (most subscription offset : ℕ) → List ℕ → List Item
at_most zero subscription offset bytes = []
at_most (suc k) subscription offset [] = []
at_most (suc k) subscription offset (b ∷ bs) =
    item_then offset (verdict subscription offset (b ∷ bs)) (λ c. at_most k subscription (offset + size c) (drop (size c) (b ∷ bs)))

-- all of them: a message has at least a byte
unfoldable pub items : (subscription offset : ℕ) → List ℕ → List Item
items subscription offset bytes = at_most (length bytes) subscription offset bytes

-- unbroken messages with these contents, from an offset on
abbrev pub goods : ℕ → List Content → List Item
goods offset [] = []
goods offset (c ∷ cs) = good offset c ∷ goods (offset + size c) cs

-- the item of an index, counted from 0
abbrev pub nth : ℕ → List Item → Option Item
nth k [] = None
nth zero (i ∷ is) = Some i
nth (suc k) (i ∷ is) = nth k is
