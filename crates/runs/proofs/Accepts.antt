-- What an honest session sends is accepted, and the run goes on.
use Rattle.std.proofs.Common.{◌≡◌, ℕ, ◌+◌, ◌≤◌, Bool, true, false, cond, not, ◌&&◌, eqb, List, [], ◌∷◌, ◌++◌, drop, is_some, is_ok, Some, None, Ok, Err, Option, Result, refl, ap, ◌∙◌, arith}
use Rattle.std.proofs.lemmas.Bool.{eqb-true, eqb-false, eq-eqb, ne_eqb, cond-true, cond-false, and_from, and_left, and_right}
use Rattle.codes.specs.Refusals.{Returned, alone}
use Rattle.codes.specs.declared.packet.PacketType.{PacketType}
use Rattle.codes.specs.declared.packet.PacketType.TheVariants.{Messages, Heartbeat}
use Rattle.messages.specs.Content.{Content, size}
use Rattle.feed.specs.Layout.{LaidPacket, LaidHeartbeat}
use Rattle.feed.specs.Items.{items, goods}
use Rattle.feed.specs.Packets.{headed}
use Rattle.feed.specs.declared.packet.Header.{Header}
use Rattle.feed.proofs.Agreements.{packets_agree, heartbeats_agree}
use Rattle.feed.proofs.Steps.{some_size, next_none}
use Rattle.kinds.specs.Meaning.{Meaning}
use Rattle.runs.specs.Verdicts.{opens, judged, or_else, fault, startable, refused_for, unless, past, checked}
use Rattle.runs.specs.States.{Packet, State, contents_of, packet_in, stamp_of, waits, starts_over, starts, readied, arrived, arrived_count, heard, received, outcome, delivered_in}
use Rattle.runs.specs.Publisher.{In, AllPlain, Opens, Honest}
use Rattle.runs.specs.Runs.{packet, heartbeat, watch_list, Run, begun, deliver, hear, History, DeliverLaw}
use Rattle.runs.proofs.Theorem.{run_stamp, arrived_watch}

contents_goods : (at : ℕ) (cs : List Content) → contents_of (goods at cs) ≡ cs
contents_goods at [] = refl
contents_goods at (c ∷ cs) = ap (λ l. c ∷ l) (contents_goods (at + size c) cs)

module _ (K : Meaning) where
  plain_none : (number at : ℕ) (cs : List Content) → ((a : ℕ) → at ≤ a → opens number a ≡ false) → AllPlain K cs → fault K number (goods at cs) ≡ None
  plain_none number at [] closed h = refl
  plain_none number at (c ∷ cs) closed h =
      let fine : judged K number at c ≡ None = cond-false _ _ _ (closed at (omega arith)) ∙ cond-false _ _ _ h.0 ∙ cond-true _ _ _ h.1 in
      ap (λ o. or_else o (fault K number (goods (at + size c) cs))) fine ∙ plain_none number (at + size c) cs (λ a le. closed a (omega arith)) h.2

  opening_none : (number stamp : ℕ) (cs : List Content) → eqb number 1 ≡ true → Opens K stamp cs → fault K number (goods 8 cs) ≡ None
  opening_none number stamp cs e h =
      let some = some_size h.reset in
      let fine : judged K number 8 h.reset ≡ None = cond-true _ _ _ (and_from (eqb number 1) (eqb 8 8) e refl) ∙ cond-true _ _ _ h.resets in
      ap (λ l. fault K number (goods 8 l)) h.is
      ∙ ap (λ o. or_else o (fault K number (goods (8 + size h.reset) h.rest))) fine
      ∙ plain_none number (8 + size h.reset) h.rest (λ a le. and_right (eqb number 1) (eqb a 8) (ne_eqb a 8 (λ q. omega arith))) h.plain

  module _ (sent : List Packet) (honest : Honest K sent) (p : Packet) (i : In p sent) where
    no_fault : (b : Bool) → eqb p.number 1 ≡ b → fault K p.number (goods 8 p.contents) ≡ None
    no_fault true e = opening_none p.number honest.stamp p.contents e (honest.opening p i (eqb-true p.number 1 e))
    no_fault false e = plain_none p.number 8 p.contents (λ a le. and_left (eqb p.number 1) (eqb a 8) e) (honest.later p i (eqb-false p.number 1 e))

    start : p.number ≡ 1 → (o : Option ℕ) → (o ≡ Some honest.stamp → ⊥) → starts_over o p.number (stamp_of p.contents) ≡ true
    start one None other = eq-eqb p.number 1 one
    start one (Some u) other =
        let opening = honest.opening p i one in
        let own : stamp_of p.contents ≡ honest.stamp = ap stamp_of opening.is ∙ opening.stamped in
        and_from (eqb p.number 1) (not (eqb u (stamp_of p.contents))) (eq-eqb p.number 1 one) (ap not (ne_eqb u (stamp_of p.contents) (λ q. other (ap Some (q ∙ own)))))

    passes : (s : State) (bytes : List ℕ) → LaidPacket s.subscription bytes p.number p.contents → (waits s && not (eqb p.number 1)) ≡ false → checked K s.subscription (waits s) bytes ≡ Ok (headed Messages s.subscription p.number)
    unfolding checked
    passes s bytes laid w =
        let h = headed Messages s.subscription p.number in
        let read = (packets_agree s.subscription bytes p.number p.contents).1 laid in
        ap (past K (waits s) (items s.subscription 8 (drop 8 bytes))) read.0
        ∙ ap (λ o. unless (or_else o (cond (waits s && not (startable Messages p.number)) (Some (alone 8)) None)) h) (ap (fault K p.number) read.1 ∙ no_fault (eqb p.number 1) refl)
        ∙ ap (λ o. unless o h) (cond-false _ _ _ w)

    -- bytes laid out as the packet are taken as the packet
    taken_as : (s : State) (bytes : List ℕ) → LaidPacket s.subscription bytes p.number p.contents → (waits s && not (eqb p.number 1)) ≡ false → delivered_in K s bytes ≡ (Ok (arrived_count K s p), arrived K s p)
    taken_as s bytes laid w =
        let read = (packets_agree s.subscription bytes p.number p.contents).1 laid in
        let same : packet_in s.subscription p.number bytes ≡ p = ap (λ cs. record { number = p.number; contents = cs }) (ap contents_of read.1 ∙ contents_goods 8 p.contents) in
        ap (outcome K s bytes) (passes s bytes laid w) ∙ ap (λ q. (Ok (arrived_count K s q), arrived K s q)) same

  heard_passes : (s : State) (bytes : List ℕ) (n : ℕ) → LaidHeartbeat s.subscription bytes n → waits s ≡ false → checked K s.subscription (waits s) bytes ≡ Ok (headed Heartbeat s.subscription n)
  unfolding checked
  heard_passes s bytes n laid w =
      let h = headed Heartbeat s.subscription n in
      let none : items s.subscription 8 (drop 8 bytes) ≡ [] = next_none s.subscription bytes 8 (omega (arith, laid.all)) in
      ap (past K (waits s) (items s.subscription 8 (drop 8 bytes))) ((heartbeats_agree s.subscription bytes n).1 laid)
      ∙ ap (λ is. unless (refused_for K (waits s) h is) h) none
      ∙ ap (λ o. unless o h) (cond-false _ _ _ (and_left (waits s) (not (startable Heartbeat n)) w))

  heard_as : (s : State) (bytes : List ℕ) (n : ℕ) → LaidHeartbeat s.subscription bytes n → waits s ≡ false → delivered_in K s bytes ≡ (Ok 0, heard s n)
  heard_as s bytes n laid w = ap (outcome K s bytes) (heard_passes s bytes n laid w)

  readied_subscription : (s : State) (p : Packet) (b : Bool) → (readied b K s p).subscription ≡ s.subscription
  readied_subscription s p true = refl
  readied_subscription s p false = refl

  kept : (s : State) (bytes : List ℕ) (v : Result Header Returned) → ((outcome K s bytes v).1.subscription ≡ s.subscription) × (watch_list (outcome K s bytes v).1 ≡ watch_list s)
  kept s bytes (Err r) = (refl, refl)
  kept s bytes (Ok h) = by h.kind
    where
      by : (kind : PacketType) → ((received K s bytes kind h.number).1.subscription ≡ s.subscription) × (watch_list (received K s bytes kind h.number).1 ≡ watch_list s)
      by Messages = let p = packet_in s.subscription h.number bytes in (readied_subscription s p (starts s p), arrived_watch K s p)
      by Heartbeat = (refl, refl)

  module _ (s : State) (bytes : List ℕ) (answer : Result ℕ Returned) (t : State) (told : answer ≡ (delivered_in K s bytes).0) (is : t ≡ (delivered_in K s bytes).1) where
    pub deliver_law : DeliverLaw K s bytes answer t
    deliver_law = record { sent = sent; beat = beat; opening = opening; subscription = ap (λ (u : State). u.subscription) is ∙ stays.0; watch = ap watch_list is ∙ stays.1 }
      where
        stays : ((delivered_in K s bytes).1.subscription ≡ s.subscription) × (watch_list (delivered_in K s bytes).1 ≡ watch_list s)
        stays = kept s bytes (checked K s.subscription (waits s) bytes)

        sent : (h : History K s) (p : Packet) → In p h.sent → LaidPacket s.subscription bytes p.number p.contents → (is_ok answer ≡ true) × Run K h.sent h.watch (h.came ++ (packet p ∷ [])) t
        sent h p i laid =
            let stamp = run_stamp K h.sent h.watch h.honest h.run in
            let e = taken_as h.sent h.honest p i s bytes laid (and_left (waits s) (not (eqb p.number 1)) (ap (λ o. not (is_some o)) stamp)) in
            (ap is_ok (told ∙ ap (λ (r : Result ℕ Returned × State). r.0) e), deliver h.run i (is ∙ ap (λ (r : Result ℕ Returned × State). r.1) e))

        beat : (h : History K s) (n : ℕ) → LaidHeartbeat s.subscription bytes n → (is_ok answer ≡ true) × Run K h.sent h.watch (h.came ++ (heartbeat n ∷ [])) t
        beat h n laid =
            let stamp = run_stamp K h.sent h.watch h.honest h.run in
            let e = heard_as s bytes n laid (ap (λ o. not (is_some o)) stamp) in
            (ap is_ok (told ∙ ap (λ (r : Result ℕ Returned × State). r.0) e), hear n h.run (is ∙ ap (λ (r : Result ℕ Returned × State). r.1) e))

        opening : (sent : List Packet) (honest : Honest K sent) (p : Packet) → In p sent → p.number ≡ 1 → LaidPacket s.subscription bytes p.number p.contents → (is_ok answer ≡ true) × ((s.stamp ≡ Some honest.stamp → ⊥) → Run K sent (watch_list s) (packet p ∷ []) t)
        opening sent honest p i one laid =
            let e = taken_as sent honest p i s bytes laid (and_right (waits s) (not (eqb p.number 1)) (ap not (eq-eqb p.number 1 one))) in (
              ap is_ok (told ∙ ap (λ (r : Result ℕ Returned × State). r.0) e),
              λ other. begun s i one (start sent honest p i one s.stamp other) refl (is ∙ ap (λ (r : Result ℕ Returned × State). r.1) e),
            )
