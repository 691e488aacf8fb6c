-- The returned number of each refusal, with its offset or index where it has one.
use Rattle.std.specs.Prelude.{ℕ, List, ◌++◌, Some, None, Ok, Err, Option, Result, codes}
use Rattle.std.specs.Fmt.{decimal}
use Rattle.codes.specs.declared.refusal.Refusal.{Refusal}
use Rattle.codes.specs.declared.refusal.Refusal.TheVariants.{PacketLength, OtherSubscription, PacketType, NumberOutOfRange, BrokenMessage, MisplacedReset, ForeignMessage, NoReset, BufferTooShort, BadWatchList, NotWatched, WindowArea, BrokenFile, ServerMessage, PacketRange}

pub data Returned : Type 0 where
  alone : (number : ℕ) → Returned
  placed : (number place : ℕ) → Returned

abbrev pub returned : Refusal → Returned
returned PacketLength = alone 1
returned OtherSubscription = alone 2
returned PacketType = alone 3
returned NumberOutOfRange = alone 4
returned (BrokenMessage offset) = placed 5 offset
returned (MisplacedReset offset) = placed 6 offset
returned (ForeignMessage offset) = placed 7 offset
returned NoReset = alone 8
returned BufferTooShort = alone 9
returned (BadWatchList index) = placed 10 index
returned NotWatched = alone 11
returned WindowArea = alone 12
returned (BrokenFile offset) = placed 13 offset
returned ServerMessage = alone 14
returned PacketRange = alone 15

abbrev pub number_of : Returned → ℕ
number_of (alone number) = number
number_of (placed number place) = number

abbrev pub place_of : Returned → Option ℕ
place_of (alone number) = None
place_of (placed number place) = Some place

-- how it is printed
abbrev pub text_of : Returned → List ℕ
text_of (alone number) = codes "refused " ++ decimal number
text_of (placed number place) = codes "refused " ++ decimal number ++ codes " at " ++ decimal place

-- an answer, told by a function of its value or by the returned number
abbrev pub answered : {A B : Type 0} → (A → B) → Result A Refusal → Result B Returned
answered tell (Ok value) = Ok (tell value)
answered tell (Err refusal) = Err (returned refusal)

-- the refusal of an answer, if it is one
abbrev pub refusal_of : {A : Type 0} → Result A Refusal → Option Returned
refusal_of (Ok value) = None
refusal_of (Err refusal) = Some (returned refusal)
