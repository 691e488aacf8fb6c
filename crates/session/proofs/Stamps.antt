-- The stamp of a packet's first message.
use Rattle.std.proofs.Common.{◌≡◌, ℕ, List, [], ◌∷◌, Some, None, Option, slice_get, refl}
use Rattle.std.specs.Option.{option_map}
use Rattle.feed.specs.Items.{Item, good, refused, nth}
use Rattle.messages.specs.Content.{stamp_in}
use Rattle.runs.specs.States.{contents_of}

abbrev pub stamp_if : Option Item → Option ℕ
stamp_if None = None
stamp_if (Some (refused r)) = None
stamp_if (Some (good offset c)) = Some (stamp_in c)

pub first_stamp : (is : List Item) → option_map stamp_in (slice_get (contents_of is) 0) ≡ stamp_if (nth 0 is)
first_stamp [] = refl
first_stamp (refused r ∷ rest) = refl
first_stamp (good offset c ∷ rest) = refl
