-- The packets that a window holds, read off its area.
use Rattle.std.specs.Prelude.{ℕ, zero, suc, ◌-◌, ◌*◌, ◌/◌, min, Bool, cond, ◌&&◌, List, [], ◌∷◌, ◌++◌, length, map, take, drop, Some, None, Ok, Err, Option, Result, ◌==◌, nat_le}
use Rattle.std.specs.Simd.{first_chunks}
use Rattle.codes.specs.Refusals.{Returned, alone}
use Rattle.messages.specs.Verdict.{in_range}
use Rattle.messages.specs.Wire.{byte, be16, be32}
use Rattle.feed.specs.Packets.{good_length}
use Rattle.replay.specs.Stores.{holding}
use Rattle.window.specs.declared.window.Window.{Window}

-- the whole cells of an area of this length
unfoldable pub cells : ℕ → ℕ
cells len = len / 8192

-- so many cells and nothing more, 1 to 64
abbrev pub good_cells : (cells len : ℕ) → Bool
good_cells cells len = nat_le 1 cells && nat_le cells 64 && len == cells * 8192

abbrev pub area_verdict : ℕ → Result (Unit {0}) Returned
area_verdict len = cond (good_cells (len / 8192) len) (Ok tt) (Err (alone 12))

-- the packet at the front of a cell, by its length field
abbrev pub front : List ℕ → List ℕ
front cell = take (min (be16 cell 0) 8192) cell

-- the cells are a ring: those from a first one on, and then those before it
abbrev pub ring : {E : Type 0} → ℕ → List E → List E
ring first es = drop first es ++ take first es

-- the packets in an area, in the order kept
unfoldable pub packets_in : List ℕ → (first count : ℕ) → List (List ℕ)
packets_in area first count = map front (take count (ring first (first_chunks 8192 (cells (length area)) area)))

abbrev pub packets : Window → List (List ℕ)
packets w = packets_in w.area.now w.first w.count

-- the cells of a window
abbrev pub room : Window → ℕ
room w = cells (length w.area.now)

-- rows 1 to 4 for a packet to keep, which must be an M packet: its number
abbrev pub keepable : (subscription : ℕ) → List ℕ → Result ℕ Returned
keepable subscription packet =
    cond (good_length (be16 packet 0) (length packet))
    (cond (byte packet 3 == subscription)
    (cond (byte packet 2 == 77)
    (cond (in_range (be32 packet 4))
    (Ok (be32 packet 4))
    (Err (alone 4)))
    (Err (alone 3)))
    (Err (alone 2)))
    (Err (alone 1))

-- what a window of so many cells holds once a packet is added: what it held, without the earliest where it was full,
-- and then the packet
unfoldable pub added : (cells : ℕ) → List ℕ → List (List ℕ) → List (List ℕ)
added zero packet held = []
added (suc more) packet held = drop (length held - more) held ++ (packet ∷ [])

-- a number already held stays as it is
abbrev pub added_if : (cells : ℕ) → List ℕ → List (List ℕ) → Option (List ℕ) → List (List ℕ)
added_if cells packet held (Some same) = held
added_if cells packet held None = added cells packet held

-- what it holds after a packet was given to it; a refused one changes nothing
abbrev pub kept_if : (cells subscription : ℕ) → List ℕ → List (List ℕ) → Result ℕ Returned → List (List ℕ)
kept_if cells subscription packet held (Ok number) = added_if cells packet held (holding subscription held number)
kept_if cells subscription packet held (Err refusal) = held

abbrev pub kept : (cells subscription : ℕ) → List ℕ → List (List ℕ) → List (List ℕ)
kept cells subscription packet held = kept_if cells subscription packet held (keepable subscription packet)

abbrev pub keep_verdict : Result ℕ Returned → Result (Unit {0}) Returned
keep_verdict (Ok number) = Ok tt
keep_verdict (Err refusal) = Err refusal
