-- What a write of one packet does to the packets at the fronts of the cells.
use Rattle.std.proofs.Common.{◌≡◌, ℕ, zero, suc, ◌+◌, ◌*◌, ◌<◌, ◌≤◌, min, true, List, ◌++◌, length, map, get_or, take, drop, sym, refl, ap, ◌∙◌, arith, length-append, length-drop, length-take, rules}
use borrow.Rule.Slice.PartMut.{put_mid, post_of}
use Rattle.std.proofs.Math.ListN.{set}
use Rattle.std.proofs.lemmas.List.{drop-take, drop-drop, take_at, take-take, get_or-take, get_or_append_left, drop-append-le}
use Rattle.std.proofs.lemmas.Slice.{take-put_mid_below, drop-append-drop}
use Rattle.std.specs.Simd.{first_chunks}
use Rattle.messages.specs.Wire.{be16}
use Rattle.feed.specs.Packets.{good_length}
use Rattle.window.specs.Windows.{front}

-- a packet as long as its length field says
pub record Whole (packet : List ℕ) : Type 0 where
  pub shortest : 8 ≤ length packet
  pub longest : length packet ≤ 8192
  pub said : be16 packet 0 ≡ length packet

pub whole : (packet : List ℕ) → good_length (be16 packet 0) (length packet) ≡ true → Whole packet
whole packet h = record { shortest = search rules; longest = search rules; said = search rules }

front_is : (packet rest : List ℕ) → Whole packet → front (take 8192 (packet ++ rest)) ≡ packet
front_is packet rest w =
    let short = w.shortest in
    let long = w.longest in
    let said = w.said in
    let high : get_or (take 8192 (packet ++ rest)) 0 0 ≡ get_or packet 0 0 = get_or-take 8192 (packet ++ rest) 0 0 (omega arith) ∙ get_or_append_left packet rest 0 0 (omega arith) in
    let low : get_or (take 8192 (packet ++ rest)) 1 0 ≡ get_or packet 1 0 = get_or-take 8192 (packet ++ rest) 1 0 (omega arith) ∙ get_or_append_left packet rest 0 1 (omega arith) in
    let e : min (be16 (take 8192 (packet ++ rest)) 0) 8192 ≡ length packet = omega arith in
    ap (λ (n : ℕ). take n (take 8192 (packet ++ rest))) e ∙ take-take (length packet) 8192 (packet ++ rest) long ∙ take_at packet rest (length packet) refl

-- a write past the first n elements, without them
drop-put_mid_past : {X : Type 0} (n a k : ℕ) (xs ys : List X) → n + a ≤ length xs → drop n (put_mid (n + a) k xs ys) ≡ put_mid a k (drop n xs) ys
drop-put_mid_past n a k xs ys h =
    let e = drop-append-le n (take (n + a) xs) (ys ++ post_of (n + a) k xs) (omega (arith, length-take (n + a) xs)) in
    let front = drop-take n a xs in
    let back = drop-drop a n xs in
    cc

-- the packets at the fronts of so many cells
abbrev pub fronts : (cells : ℕ) → List ℕ → List (List ℕ)
fronts cells area = map front (first_chunks 8192 cells area)

pub length-fronts : (c : ℕ) (area : List ℕ) → length (fronts c area) ≡ c
length-fronts zero area = refl
length-fronts (suc c) area = ap suc (length-fronts c (drop 8192 area))

-- a packet is written to the front of the cell t, and the others are as they were; k is its length
pub fronts-written : (c t : ℕ) (area packet : List ℕ) (k : ℕ) → k ≡ length packet → Whole packet → t < c → c * 8192 ≤ length area → fronts c (put_mid (t * 8192) k area packet) ≡ set (fronts c area) t packet
fronts-written zero t area packet k is w below inside = absurd (omega arith)
fronts-written (suc c) zero area packet k is w below inside =
    let long = w.longest in
    let z : 0 * 8192 ≡ 0 = omega arith in
    let here = front_is packet (drop k area) w in
    let rest : drop 8192 (packet ++ drop k area) ≡ drop 8192 area = drop-append-drop k area packet 8192 (omega arith) (sym is) in
    rw (z, here, rest)
fronts-written (suc c) (suc t) area packet k is w below inside =
    let e : suc t * 8192 ≡ 8192 + t * 8192 = omega arith in
    let here = take-put_mid_below (8192 + t * 8192) k area packet 8192 (omega arith) (omega arith) in
    let rest = drop-put_mid_past 8192 (t * 8192) k area packet (omega arith) in
    let more = fronts-written c t (drop 8192 area) packet k is w (omega arith) (omega (arith, length-drop 8192 area)) in
    rw (e, here, rest, more)

-- the area is as long as it was
pub length-written : (a k : ℕ) (area packet : List ℕ) → k ≡ length packet → a + k ≤ length area → length (put_mid a k area packet) ≡ length area
length-written a k area packet is inside = simp (length-append, length-take, length-drop) (omega arith)
