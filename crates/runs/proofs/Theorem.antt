-- What every run makes of a series, by induction on runs.
use Rattle.std.proofs.Common.{◌≡◌, ℕ, ◌<◌, ◌≤◌, Bool, true, false, cond, not, eqb, ◌⊎◌, List, [], ◌∷◌, ◌++◌, is_some, Some, None, Ok, Err, Option, Result, sym, refl, ap, ◌∙◌, subst, inl, inr, true≢false, append_assoc, append-nil, arith}
use mathlib.Core.List.{foldl-append}
use mathlib.Core.Bool.{false≢true}
use Rattle.std.specs.Option.{option_map}
use Rattle.std.specs.Str.{bytes_eq}
use Rattle.std.proofs.lemmas.Bool.{eqb-true, eq-eqb, ltb-true, ltb-false, lt-ltb, cases_lt, and_left, and_right}
use Rattle.codes.specs.Refusals.{Returned, alone}
use Rattle.kinds.specs.Meaning.{Meaning}
use Rattle.runs.specs.Taking.{Numbered, Slot, taken, fresh}
use Rattle.runs.specs.Watching.{Watched}
use Rattle.messages.specs.Symbols.{among}
use Rattle.runs.specs.States.{Packet, State, View, view, view_of, looked, stamp_of, starts_over, starts, readied, arrived}
use Rattle.runs.specs.Publisher.{In, Honest, messages_of, of_series, within, published}
use Rattle.runs.specs.Runs.{Arrival, packet, heartbeat, brought, watch_list, Run, begun, deliver, hear, History, highest, Truth, Shows, LookLaw}
use Rattle.runs.proofs.Series.{after, after_last, after_seen, Right, fresh_right, right_all}
use Rattle.runs.proofs.Books.{slot_in, symbols, slot_fed, symbols_fed, slot_renewed, symbols_renewed, slot_watched}

brought-append : (x : List ℕ) (come more : List Arrival) → brought x (come ++ more) ≡ brought x come ++ brought x more
brought-append x [] more = refl
brought-append x (packet p ∷ rest) more = ap (λ l. of_series x (messages_of p) ++ l) (brought-append x rest more) ∙ sym (append_assoc (of_series x (messages_of p)) (brought x rest) (brought x more))
brought-append x (heartbeat n ∷ rest) more = brought-append x rest more

pub within-append : (x : List ℕ) (ps qs : List Packet) → within x (ps ++ qs) ≡ within x ps ++ within x qs
within-append x [] qs = refl
within-append x (p ∷ ps) qs = ap (λ l. of_series x (messages_of p) ++ l) (within-append x ps qs) ∙ sym (append_assoc (of_series x (messages_of p)) (within x ps) (within x qs))

-- the highest number is that of a message, and no message's is above it
highest_in : (n : ℕ) (ms : List Numbered) → n < highest ms → (m : Numbered) × In m ms × (n < m.number)
highest_in n [] h = absurd (omega arith)
highest_in n (m ∷ ms) h = by (cases_lt n m.number) (highest_in n ms)
  where
    by : (n < m.number) ⊎ (m.number ≤ n) → (n < highest ms → (k : Numbered) × In k ms × (n < k.number)) → (k : Numbered) × In k (m ∷ ms) × (n < k.number)
    by (inl l) rest = (m, record { before = []; rest = ms; is = refl }, l)
    by (inr l) rest =
        let r = rest (omega arith) in
        (r.0, record { before = m ∷ r.1.before; rest = r.1.rest; is = ap (λ l. m ∷ l) r.1.is }, r.2)

highest_above : (before : List Numbered) (m : Numbered) (rest : List Numbered) → m.number ≤ highest (before ++ (m ∷ rest))
highest_above [] m rest = omega arith
highest_above (b ∷ before) m rest = let h = highest_above before m rest in omega arith

in_below : (m : Numbered) (ms : List Numbered) → In m ms → m.number ≤ highest ms
in_below m ms i = omega (arith, highest_above i.before m i.rest, ap highest i.is)

module _ (K : Meaning) where
  -- the slots of a state after a packet, by whether it starts a session
  arrived_slot : (x : List ℕ) (s : State) (p : Packet) (b : Bool) → starts s p ≡ b → slot_in (arrived K s p).slots x ≡ option_map (after K (of_series x (messages_of p))) (cond b (option_map (λ u. fresh K) (slot_in s.slots x)) (slot_in s.slots x))
  arrived_slot x s p b e = slot_fed K x p.contents (readied (starts s p) K s p).slots ∙ ap (option_map (after K (of_series x (messages_of p)))) (ap (λ c. slot_in (readied c K s p).slots x) e ∙ by b)
    where
      by : (c : Bool) → slot_in (readied c K s p).slots x ≡ cond c (option_map (λ u. fresh K) (slot_in s.slots x)) (slot_in s.slots x)
      by true = slot_renewed K x s.slots
      by false = refl

  readied_symbols : (s : State) (p : Packet) (b : Bool) → symbols (readied b K s p).slots ≡ symbols s.slots
  readied_symbols s p true = symbols_renewed K s.slots
  readied_symbols s p false = refl

  pub arrived_watch : (s : State) (p : Packet) → watch_list (arrived K s p) ≡ watch_list s
  arrived_watch s p = symbols_fed K p.contents (readied (starts s p) K s p).slots ∙ readied_symbols s p (starts s p)

  after-append : (ms ns : List Numbered) (s : Slot) → after K (ms ++ ns) s ≡ after K ns (after K ms s)
  after-append ms ns s = foldl-append (taken K) s ms ns

  module _ (sent : List Packet) (watch : List (List ℕ)) (honest : Honest K sent) where
    own_stamp : (p : Packet) → In p sent → p.number ≡ 1 → stamp_of p.contents ≡ honest.stamp
    own_stamp p i one = let o = honest.opening p i one in ap stamp_of o.is ∙ o.stamped

    no_start : (p : Packet) → In p sent → (b : Bool) → eqb p.number 1 ≡ b → starts_over (Some honest.stamp) p.number (stamp_of p.contents) ≡ false
    no_start p i true e = and_right (eqb p.number 1) (not (eqb honest.stamp (stamp_of p.contents))) (ap not (eq-eqb honest.stamp (stamp_of p.contents) (sym (own_stamp p i (eqb-true p.number 1 e)))))
    no_start p i false e = and_left (eqb p.number 1) (not (eqb honest.stamp (stamp_of p.contents))) e

    -- no packet of the session starts another one
    pub stays : (s : State) (p : Packet) → In p sent → s.stamp ≡ Some honest.stamp → starts s p ≡ false
    stays s p i e = ap (λ o. starts_over o p.number (stamp_of p.contents)) e ∙ no_start p i (eqb p.number 1) refl

    pub run_stamp : {came : List Arrival} {s : State} → Run K sent watch came s → s.stamp ≡ Some honest.stamp
    run_stamp (begun {p = p} s i one st w e) =
        ap (λ (t : State). t.stamp) e ∙ ap (λ b. (readied b K s p).stamp) st ∙ ap Some (own_stamp p i one)
    run_stamp (deliver {s = s} {p = p} r i e) =
        let before = run_stamp r in
        ap (λ (t : State). t.stamp) e ∙ ap (λ b. (readied b K s p).stamp) (stays s p i before) ∙ before
    run_stamp (hear n r e) = ap (λ (t : State). t.stamp) e ∙ run_stamp r

    fresh_cond : (f : Slot → Slot) (o : Option Slot) (b : Bool) → is_some o ≡ b → option_map f (option_map (λ u. fresh K) o) ≡ cond b (Some (f (fresh K))) None
    fresh_cond f (Some u) true e = refl
    fresh_cond f (Some u) false e = absurd (true≢false e)
    fresh_cond f None true e = absurd (false≢true e)
    fresh_cond f None false e = refl

    mapped_cond : (f : Slot → Slot) (u : Slot) (b : Bool) → option_map f (cond b (Some u) None) ≡ cond b (Some (f u)) None
    mapped_cond f u true = refl
    mapped_cond f u false = refl

    -- a series' slot is the taking rule worked over what has come of it, from an empty slot
    pub run_slot : {came : List Arrival} {s : State} → Run K sent watch came s → (x : List ℕ) → slot_in s.slots x ≡ cond (among x watch) (Some (after K (brought x came) (fresh K))) None
    run_slot (begun {p = p} s i one st w e) x =
        let own = of_series x (messages_of p) in
        let there : is_some (slot_in s.slots x) ≡ among x watch = slot_watched x s.slots ∙ ap (among x) w in
        ap (λ (t : State). slot_in t.slots x) e ∙ arrived_slot x s p true st
        ∙ fresh_cond (after K own) (slot_in s.slots x) (among x watch) there
        ∙ ap (λ l. cond (among x watch) (Some (after K l (fresh K))) None) (sym (append-nil own))
    run_slot (deliver {came = came} {s = s} {p = p} r i e) x =
        let own = of_series x (messages_of p) in
        let all : brought x (came ++ (packet p ∷ [])) ≡ brought x came ++ own = brought-append x came (packet p ∷ []) ∙ ap (λ l. brought x came ++ l) (append-nil own) in
        ap (λ (t : State). slot_in t.slots x) e ∙ arrived_slot x s p false (stays s p i (run_stamp r))
        ∙ ap (option_map (after K own)) (run_slot r x) ∙ mapped_cond (after K own) (after K (brought x came) (fresh K)) (among x watch)
        ∙ ap (λ u. cond (among x watch) (Some u) None) (sym (after-append (brought x came) own (fresh K)) ∙ ap (λ l. after K l (fresh K)) (sym all))
    run_slot (hear {came = came} n r e) x =
        ap (λ (t : State). slot_in t.slots x) e ∙ run_slot r x
        ∙ ap (λ l. cond (among x watch) (Some (after K l (fresh K))) None) (sym (brought-append x came (heartbeat n ∷ []) ∙ append-nil (brought x came)))

    stretch : (x : List ℕ) (p : Packet) (i : In p sent) → within x sent ≡ within x i.before ++ (of_series x (messages_of p) ++ within x i.rest)
    stretch x p i = ap (within x) i.is ∙ within-append x i.before (p ∷ i.rest)

    takes_packet : (x : List ℕ) (p : Packet) → In p sent → (u : Slot) → Right K (within x sent) u → Right K (within x sent) (after K (of_series x (messages_of p)) u)
    takes_packet x p i u right = right_all K (within x sent) (within x i.before) (of_series x (messages_of p)) (within x i.rest) (stretch x p i) (honest.messages x) u right

    -- its record is the publisher's after its last number
    pub run_right : {came : List Arrival} {s : State} → Run K sent watch came s → (x : List ℕ) → Right K (within x sent) (after K (brought x came) (fresh K))
    run_right (begun {p = p} s i one st w e) x =
        subst (λ (l : List Numbered). Right K (within x sent) (after K l (fresh K))) (sym (append-nil (of_series x (messages_of p)))) (takes_packet x p i (fresh K) (fresh_right K (within x sent)))
    run_right (deliver {came = came} {p = p} r i e) x =
        let own = of_series x (messages_of p) in
        let all : brought x (came ++ (packet p ∷ [])) ≡ brought x came ++ own = brought-append x came (packet p ∷ []) ∙ ap (λ l. brought x came ++ l) (append-nil own) in
        subst (λ (u : Slot). Right K (within x sent) u) (sym (ap (λ l. after K l (fresh K)) all ∙ after-append (brought x came) own (fresh K))) (takes_packet x p i (after K (brought x came) (fresh K)) (run_right r x))
    run_right (hear {came = came} n r e) x =
        subst (λ (l : List Numbered). Right K (within x sent) (after K l (fresh K))) (sym (brought-append x came (heartbeat n ∷ []) ∙ append-nil (brought x came))) (run_right r x)

    -- a session keeps its watch list
    pub run_watch : {came : List Arrival} {s : State} → Run K sent watch came s → watch_list s ≡ watch
    run_watch (begun {p = p} s i one st w e) = ap watch_list e ∙ arrived_watch s p ∙ w
    run_watch (deliver {s = s} {p = p} r i e) = ap watch_list e ∙ arrived_watch s p ∙ run_watch r
    run_watch (hear n r e) = ap watch_list e ∙ run_watch r

-- what is shown of a slot, if there is one
abbrev shown_if : Option Slot → Result View Returned
shown_if None = Err (alone 11)
shown_if (Some u) = Ok (view u)

view_slot : (x : List ℕ) (ws : List Watched) → view_of x ws ≡ shown_if (slot_in ws x)
view_slot x [] = refl
view_slot x (w ∷ ws) = by (bytes_eq w.symbol x) (view_slot x ws)
  where
    by : (b : Bool) → view_of x ws ≡ shown_if (slot_in ws x) → cond b (Ok (view w.slot)) (view_of x ws) ≡ shown_if (cond b (Some w.slot) (slot_in ws x))
    by true rest = refl
    by false rest = rest

module _ {K : Meaning} {s : State} (h : History K s) (x : List ℕ) (watched : among x h.watch ≡ true) where
  -- the slot that the rules give
  abbrev given : Slot
  given = after K (brought x h.came) (fresh K)

  looked_run : looked s x ≡ Ok (view given)
  looked_run =
      let stamp = run_stamp K h.sent h.watch h.honest h.run in
      let slot = run_slot K h.sent h.watch h.honest h.run x in
      ap (λ o. cond (not (is_some o)) (Err (alone 8)) (view_of x s.slots)) stamp
      ∙ view_slot x s.slots ∙ ap shown_if (slot ∙ ap (λ b. cond b (Some given) None) watched)

  truth : Truth h x (view given)
  truth =
      let here = brought x h.came in
      let right = run_right K h.sent h.watch h.honest h.run x in
      let high : given.seen ≡ highest here = after_seen K here (fresh K) ∙ omega arith in
      record {
        last = after_last K here (fresh K);
        shown = right.shown;
        stale = (
          λ t. highest_in given.kept.last here (omega (arith, ltb-true given.kept.last given.seen t)),
          λ c. lt-ltb given.kept.last given.seen (omega (arith, in_below c.0 here c.1, c.2)),
        );
        current = λ f.
            let same : given.kept.last ≡ highest here = omega (arith, right.ordered, ltb-false given.kept.last given.seen f) in
            right.shown ∙ ap (λ n. published K h.sent x n) same;
      }

pub look_law : (K : Meaning) (s : State) (x : List ℕ) (answer : Result View Returned) → answer ≡ looked s x → LookLaw K s x answer
look_law K s x answer e =
    record {
      true_look = λ h w. subst (Shows h x) (sym (e ∙ looked_run h x w)) (truth h x w);
      alike = λ h t k w v same. e ∙ looked_run h x w ∙ ap (λ l. Ok (view (after K l (fresh K)))) same ∙ sym (looked_run k x v);
    }
