-- What callers of the stores get.
use Rattle.std.specs.Prelude.{ℕ, List, [], Ok, Err, Option, Result}
use Rattle.codes.specs.Refusals.{Returned}
use Rattle.replay.specs.Stores.{holding, fetch_verdict, fetched_into}
use Rattle.window.specs.Windows.{cells, kept}

-- the packets of a new window over so many bytes, after two packets were given to it
abbrev pub kept_two : (len subscription : ℕ) → (earlier later : List ℕ) → List (List ℕ)
kept_two len subscription earlier later = kept (cells len) subscription later (kept (cells len) subscription earlier [])

-- a fetch of a number from such packets, where the area will do
abbrev pub answer_if : Result (Unit {0}) Returned → (subscription number room : ℕ) → List (List ℕ) → Result (Option ℕ) Returned
answer_if (Ok _) subscription number room packets = fetch_verdict (holding subscription packets number) number room
answer_if (Err refusal) subscription number room packets = Err refusal

abbrev pub buffer_if : Result (Unit {0}) Returned → (subscription number : ℕ) → List (List ℕ) → List ℕ → List ℕ
buffer_if (Ok _) subscription number packets buffer = fetched_into (holding subscription packets number) number buffer
buffer_if (Err refusal) subscription number packets buffer = buffer
