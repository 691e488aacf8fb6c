-- What a write into one cell makes of a ring, and of the packets that a window holds.
use Rattle.std.proofs.Common.{◌≡◌, ℕ, zero, suc, ◌+◌, ◌-◌, ◌*◌, ◌/◌, ◌%◌, ◌<◌, ◌≤◌, List, [], ◌∷◌, ◌++◌, length, take, drop, sym, ap, ◌∙◌, inl, inr, append_assoc, append-nil, arith, length-append, length-drop, length-take}
use borrow.Rule.Slice.PartMut.{put_mid}
use Rattle.std.proofs.Math.ListN.{set}
use Rattle.std.proofs.Math.Nat.{mod-eq_of_lt, mod-eq-sub-mod}
use Rattle.std.proofs.Math.Seq.{take-set-lt, take-suc-set}
use Rattle.std.proofs.lemmas.Bool.{cases_lt}
use Rattle.std.proofs.lemmas.Nat.{mod_below}
use Rattle.std.proofs.lemmas.List.{drop-map, take-map, map-append, drop-drop, drop-append-le, drop_all, take_all, drop-set-lt, drop-set-add, take-set-le, set-append_left, set-append_right, set_split, length-set}
use Rattle.std.specs.Simd.{first_chunks}
use Rattle.window.specs.Windows.{cells, front, ring, packets_in, added}
use Rattle.window.proofs.Cells.{Whole, fronts, length-fronts, fronts-written, length-written}

-- a number below two rounds, in the ring
round_high : (n c : ℕ) → c ≤ n → n < c + c → n % c ≡ n - c
round_high n c h below = mod-eq-sub-mod h ∙ mod-eq_of_lt (omega arith)

module _ {E : Type 0} (es : List E) (c f : ℕ) (y : E) (is : length es ≡ c) (lt : f < c) where
  pub length-ring : length (ring f es) ≡ c
  length-ring = simp (length-append, length-drop, length-take) (omega arith)

  -- the cell n places after the first
  ring-set : (n t : ℕ) → n < c → t ≡ (f + n) % c → ring f (set es t y) ≡ set (ring f es) n y
  ring-set n t h at =
      elim (cases_lt (f + n) c) [
        | inl low ↦ (
            let e : t ≡ f + n = at ∙ mod-eq_of_lt low in
            let room : n < length (drop f es) = omega (arith, length-drop f es) in
            let back : drop f (set es t y) ≡ set (drop f es) n y = rw e (drop-set-add f es n y) in
            let front : take f (set es t y) ≡ take f es = take-set-le f es t y (omega arith) in
            let joined = set-append_left (drop f es) (take f es) n y room in
            cc
            )
        | inr high ↦ (
            let e : t ≡ f + n - c = at ∙ round_high (f + n) c high (omega arith) in
            let size : length (drop f es) ≡ c - f = omega (arith, length-drop f es) in
            let back : drop f (set es t y) ≡ drop f es = drop-set-lt f es t y (omega arith) in
            let front : take f (set es t y) ≡ set (take f es) t y = take-set-lt f es t y (omega arith) in
            let same : n - (c - f) ≡ t = omega arith in
            let joined = set-append_right (drop f es) (take f es) (c - f) n y size (omega arith) in
            cc
            )
      ]

  -- one more, where a cell is free
  pub ring_free : (n t : ℕ) → n < c → t ≡ (f + n) % c → take (n + 1) (ring f (set es t y)) ≡ take n (ring f es) ++ (y ∷ [])
  ring_free n t h at =
      let e : n + 1 ≡ suc n = omega arith in
      let l = length-ring in
      rw (e, ring-set n t h at) (take-suc-set (ring f es) n y (omega arith))

  earliest_off : drop 1 (ring f es) ≡ drop (suc f) es ++ take f es
  earliest_off =
      let e : f + 1 ≡ suc f = omega arith in
      drop-append-le 1 (drop f es) (take f es) (omega (arith, length-drop f es)) ∙ ap (λ (l : List E). l ++ take f es) (drop-drop 1 f es ∙ ap (λ (m : ℕ). drop m es) e)

  -- one in the place of the earliest, which is the first
  ring_round : (f' : ℕ) → f' ≡ (f + 1) % c → ring f' (set es f y) ≡ drop 1 (ring f es) ++ (y ∷ [])
  ring_round f' at =
      elim (cases_lt (f + 1) c) [
        | inl low ↦ (
            let e : f' ≡ suc f = at ∙ mod-eq_of_lt low ∙ omega arith in
            let back : drop (suc f) (set es f y) ≡ drop (suc f) es = drop-set-lt (suc f) es f y (omega arith) in
            let front : take (suc f) (set es f y) ≡ take f es ++ (y ∷ []) = take-suc-set es f y (omega arith) in
            rw (e, back, front, earliest_off) (sym (append_assoc (drop (suc f) es) (take f es) (y ∷ [])))
            )
        | inr high ↦ (
            let e : f' ≡ 0 = at ∙ round_high (f + 1) c high (omega arith) ∙ omega arith in
            let none : drop (suc f) es ≡ [] = drop_all (suc f) es (omega arith) in
            rw (e, earliest_off, none, set_split es f y (omega arith), none) (append-nil (take f es ++ (y ∷ [])))
            )
      ]

-- what a window holds, told by the packets at the fronts of its cells
packets_fronts : (area : List ℕ) (f n c : ℕ) → c ≡ length area / 8192 → packets_in area f n ≡ take n (ring f (fronts c area))
unfolding packets_in cells
packets_fronts area f n c e =
    let cs = first_chunks 8192 c area in
    let d = drop-map front f cs in
    let t = take-map front f cs in
    let m = map-append front (drop f cs) (take f cs) in
    let k = take-map front n (ring f cs) in
    rw (← e) (cc)

pub packets_none : (area : List ℕ) (f n : ℕ) → n ≡ 0 → packets_in area f n ≡ []
unfolding packets_in
packets_none area f n e = rw e

added_full : (c : ℕ) (packet : List ℕ) (held : List (List ℕ)) → length held ≡ c → 0 < c → added c packet held ≡ drop 1 held ++ (packet ∷ [])
unfolding added
added_full zero packet held e h = absurd (omega arith)
added_full (suc m) packet held e h = let one : length held - m ≡ 1 = omega arith in rw one

added_free : (c : ℕ) (packet : List ℕ) (held : List (List ℕ)) → length held < c → added c packet held ≡ held ++ (packet ∷ [])
unfolding added
added_free zero packet held h = absurd (omega arith)
added_free (suc m) packet held h = let none : length held - m ≡ 0 = omega arith in rw none

-- a window of c cells, the first of them f, with n packets: one more is written to the cell t; k is its length
module _ (area packet bytes : List ℕ) (c f n t k : ℕ) (e : c ≡ length area / 8192) (lt : f < c) (le : n ≤ c) (at : t ≡ (f + n) % c) (is : k ≡ length packet) (w : Whole packet) (same : bytes ≡ packet) where
  abbrev new : List ℕ
  new = put_mid (t * 8192) k area bytes

  below : t < c
  below = let m = mod_below (f + n) c (omega arith) in omega arith

  inside : c * 8192 ≤ length area
  inside = omega arith

  written : (f' n' : ℕ) → packets_in new f' n' ≡ take n' (ring f' (set (fronts c area) t packet))
  written f' n' =
      ap (λ (l : List ℕ). packets_in (put_mid (t * 8192) k area l) f' n') same
      ∙ packets_fronts (put_mid (t * 8192) k area packet) f' n' c (e ∙ ap (λ (l : ℕ). l / 8192) (sym (length-written (t * 8192) k area packet is (omega (arith, w.longest)))))
      ∙ ap (λ (l : List (List ℕ)). take n' (ring f' l)) (fronts-written c t area packet k is w below inside)

  held : packets_in area f n ≡ take n (ring f (fronts c area))
  held = packets_fronts area f n c e

  length-held : length (packets_in area f n) ≡ n
  length-held =
      let l = length-ring (fronts c area) c f packet (length-fronts c area) lt in
      ap length held ∙ length-take n (ring f (fronts c area)) ∙ omega arith

  pub add_free : n < c → packets_in new f (n + 1) ≡ added c packet (packets_in area f n)
  add_free more =
      let l = length-held in
      written f (n + 1)
      ∙ ring_free (fronts c area) c f packet (length-fronts c area) lt n t more at
      ∙ ap (λ (l : List (List ℕ)). l ++ (packet ∷ [])) (sym held)
      ∙ sym (added_free c packet (packets_in area f n) (omega arith))

  pub add_full : (f' : ℕ) → c ≤ n → f' ≡ (f + 1) % c → packets_in new f' n ≡ added c packet (packets_in area f n)
  add_full f' full next =
      let l = length-held in
      let r = length-ring (fronts c area) c f packet (length-fronts c area) lt in
      let r' = length-ring (set (fronts c area) t packet) c f' packet (length-set (fronts c area) t packet ∙ length-fronts c area) (omega (arith, mod_below (f + 1) c (omega arith))) in
      let here : t ≡ f = at ∙ round_high (f + n) c (omega arith) (omega arith) ∙ omega arith in
      let all : packets_in area f n ≡ ring f (fronts c area) = held ∙ take_all n (ring f (fronts c area)) (omega arith) in
      written f' n
      ∙ take_all n (ring f' (set (fronts c area) t packet)) (omega arith)
      ∙ ap (λ (s : ℕ). ring f' (set (fronts c area) s packet)) here
      ∙ ring_round (fronts c area) c f packet (length-fronts c area) lt f' next
      ∙ ap (λ (l : List (List ℕ)). drop 1 l ++ (packet ∷ [])) (sym all)
      ∙ sym (added_full c packet (packets_in area f n) (omega arith) (omega arith))
