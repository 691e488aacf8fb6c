-- What the iterator over a feed gives: the packet at each offset, up to a length that cannot be right.
use Rattle.std.specs.Prelude.{◌≡◌, ℕ, ◌+◌, List, [], length, take, drop, Some, None, Ok, Err, Option, Result}
use Rattle.std.specs.Borrow.{Bor}
use Rattle.codes.specs.Refusals.{Returned, alone, answered}
use Rattle.codes.specs.declared.refusal.Refusal.{Refusal}
use Rattle.decode.specs.Lengths.{packet_length}
use Rattle.decode.specs.declared.packets.Packets.{Packets}

-- what is left of the feed
abbrev pub rest : Packets → List ℕ
rest p = drop p.at p.bytes.now

-- the packet at the front of some bytes by its length, or refusal 1, after which nothing is left
abbrev pub front : Option ℕ → List ℕ → Result (List ℕ) Returned
front None bytes = Err (alone 1)
front (Some size) bytes = Ok (take size bytes)

abbrev pub reach : Option ℕ → List ℕ → ℕ
reach None bytes = length bytes
reach (Some size) bytes = size

-- what a call of `next` gives, with its offset, and where the next one starts
abbrev pub Next : Packets → Option (ℕ × Result (Bor (List ℕ)) Refusal) → Packets → Type 0
Next before None after = rest before ≡ []
Next before (Some item) after =
    (item.0 ≡ before.at)
    × (answered (λ packet. packet.now) item.1 ≡ front (packet_length (rest before)) (rest before))
    × (after.at ≡ before.at + reach (packet_length (rest before)) (rest before))
    × (after.bytes.now ≡ before.bytes.now)
