-- A written packet is laid out as its header and its messages.
use Rattle.std.proofs.Common.{◌≡◌, ℕ, zero, suc, ◌+◌, ◌<◌, ◌≤◌, Bool, true, false, cond, leb, List, [], ◌∷◌, length, take, drop, Some, None, Ok, Err, Option, Result, sym, refl, ap, ◌∙◌, subst, arith, length-drop}
use Rattle.std.proofs.lemmas.List.{take_at}
use Rattle.std.proofs.lemmas.Option.{same_Some}
use Rattle.std.proofs.lemmas.Bool.{cond-true, cond-false, leb-true, le-leb, lt-leb}
use Rattle.codes.specs.Refusals.{Returned, alone, number_of}
use Rattle.codes.specs.declared.packet.PacketType.TheVariants.{Heartbeat}
use Rattle.messages.specs.Content.{Content, size}
use Rattle.feed.specs.Items.{good, item_then, at_most, items, goods}
use Rattle.messages.specs.Layout.{Number}
use Rattle.feed.specs.Layout.{LaidMessages, none, more, PacketHeader, LaidPacket, LaidHeartbeat}
use Rattle.messages.specs.Verdict.{message, judged, verdict, in_range}
use Rattle.feed.proofs.Agreements.{some_bytes, laid_items, items_laid, packets_agree, heartbeats_agree}
use Rattle.messages.proofs.Layouts.{number_passes}
use Rattle.messages.proofs.Readings.{number_from}
use Rattle.encode.specs.Packing.{packet_header, packet_bytes, first_refused, messages_fault, packet_fault, or_fault, put_unless, WrotePacket, WroteHeartbeat}
use Rattle.encode.specs.Writing.{put_answer, put}
use Rattle.encode.proofs.Numbers.{back16, back32}
use Rattle.encode.proofs.Packings.{fault_some}

-- what refuses a message is its offset
refused_upto : (k subscription offset : ℕ) (bytes : List ℕ) (r : Returned) → first_refused (at_most k subscription offset bytes) ≡ Some r → r ≡ alone 9 → ⊥
refused_upto zero subscription offset bytes r e room = let z : ◌≡◌ {A = ℕ} 0 1 = cc in omega arith
refused_upto (suc k) subscription offset [] r e room = let z : ◌≡◌ {A = ℕ} 0 1 = cc in omega arith
refused_upto (suc k) subscription offset (b ∷ bs) r e room = by (message subscription (b ∷ bs)) e (λ c h. refused_upto k subscription (offset + size c) (drop (size c) (b ∷ bs)) r h room)
  where
    by : (o : Option Content) → first_refused (item_then offset (judged offset o) (λ c. at_most k subscription (offset + size c) (drop (size c) (b ∷ bs)))) ≡ Some r → ((c : Content) → first_refused (at_most k subscription (offset + size c) (drop (size c) (b ∷ bs))) ≡ Some r → ⊥) → ⊥
    by (Some c) e later = later c e
    by None e later = let z : ◌≡◌ {A = ℕ} 0 1 = cc in omega arith

refused_placed : (subscription offset : ℕ) (bytes : List ℕ) (r : Returned) → first_refused (items subscription offset bytes) ≡ Some r → r ≡ alone 9 → ⊥
unfolding items
refused_placed subscription offset bytes r e room = refused_upto (length bytes) subscription offset bytes r e room

-- items without a refusal are good messages
all_good : (k subscription offset : ℕ) (bytes : List ℕ) → first_refused (at_most k subscription offset bytes) ≡ None → (cs : List Content) × (at_most k subscription offset bytes ≡ goods offset cs)
all_good zero subscription offset bytes e = ([], refl)
all_good (suc k) subscription offset [] e = ([], refl)
all_good (suc k) subscription offset (b ∷ bs) e = by (verdict subscription offset (b ∷ bs)) e (λ c h. all_good k subscription (offset + size c) (drop (size c) (b ∷ bs)) h)
  where
    by : (v : Result Content Returned) → first_refused (item_then offset v (λ c. at_most k subscription (offset + size c) (drop (size c) (b ∷ bs)))) ≡ None → ((c : Content) → first_refused (at_most k subscription (offset + size c) (drop (size c) (b ∷ bs))) ≡ None → (cs : List Content) × (at_most k subscription (offset + size c) (drop (size c) (b ∷ bs)) ≡ goods (offset + size c) cs)) → (cs : List Content) × (item_then offset v (λ c. at_most k subscription (offset + size c) (drop (size c) (b ∷ bs))) ≡ goods offset cs)
    by (Ok c) e later = let h = later c e in (c ∷ h.0, ap (λ l. good offset c ∷ l) h.1)
    by (Err r) e later = let z : ◌≡◌ {A = ℕ} 0 1 = cc in absurd (omega arith)

items_good_all : (subscription offset : ℕ) (bytes : List ℕ) → first_refused (items subscription offset bytes) ≡ None → (cs : List Content) × (items subscription offset bytes ≡ goods offset cs)
unfolding items
items_good_all subscription offset bytes e = all_good (length bytes) subscription offset bytes e

none_refused : (offset : ℕ) (cs : List Content) → first_refused (goods offset cs) ≡ None
none_refused offset [] = refl
none_refused offset (c ∷ cs) = none_refused (offset + size c) cs

some_messages : {subscription : ℕ} {bytes : List ℕ} {cs : List Content} → LaidMessages subscription bytes cs → 0 < length bytes → 1 ≤ length cs
some_messages none h = absurd (omega arith)
some_messages (more own rest l ls) h = omega arith

-- what nothing at fault says
pub record Sound (subscription number : ℕ) (messages : List ℕ) : Type 0 where
  pub short : length messages ≤ 8184
  pub number_good : Number number
  pub some : 0 < length messages
  pub unbroken : first_refused (items subscription 8 messages) ≡ None

module _ (subscription number : ℕ) (messages : List ℕ) where
  sound : packet_fault subscription number messages ≡ None → Sound subscription number messages
  unfolding packet_fault
  sound e = by (leb (length messages) 8184) (in_range number) refl refl e
    where
      by_body : (ms : List ℕ) → messages ≡ ms → messages_fault subscription ms ≡ None → (0 < length messages) × (first_refused (items subscription 8 messages) ≡ None)
      by_body [] f e = let z : ◌≡◌ {A = ℕ} 0 1 = cc in absurd (omega arith)
      by_body (b ∷ bs) f e = (omega (arith, ap length f), ap (λ l. first_refused (items subscription 8 l)) f ∙ e)

      by : (l n : Bool) → leb (length messages) 8184 ≡ l → in_range number ≡ n → cond l (cond n (messages_fault subscription messages) (Some (alone 4))) (Some (alone 1)) ≡ None → Sound subscription number messages
      by true true l n e = let b = by_body messages refl e in record { short = leb-true _ _ l; number_good = number_from number n; some = b.0; unbroken = b.1 }
      by true false l n e = let z : ◌≡◌ {A = ℕ} 0 1 = cc in absurd (omega arith)
      by false n l m e = let z : ◌≡◌ {A = ℕ} 0 1 = cc in absurd (omega arith)

  unsound : Sound subscription number messages → packet_fault subscription number messages ≡ None
  unfolding packet_fault
  unsound s = cond-true _ _ _ (le-leb _ _ s.short) ∙ cond-true _ _ _ (number_passes number s.number_good) ∙ fault_some subscription messages s.some ∙ s.unbroken

  header_laid : Sound subscription number messages → PacketHeader 77 subscription number (packet_bytes subscription number messages)
  header_laid s =
      let short = s.short in
      let high = s.number_good.high in
      record {
        shortest = omega arith;
        longest = omega arith;
        length_field = back16 (8 + length messages) (omega arith) ∙ (omega arith);
        type_field = refl;
        subscription_field = refl;
        number_field = back32 number (omega arith);
      }

  packet_laid : (contents : List Content) → Sound subscription number messages → LaidMessages subscription messages contents → LaidPacket subscription (packet_bytes subscription number messages) number contents
  packet_laid contents s h = record { header = header_laid s; number_good = s.number_good; some = some_messages h s.some; messages = h }

  contents_of_lem : Sound subscription number messages → (contents : List Content) × LaidMessages subscription messages contents
  contents_of_lem s = let g = items_good_all subscription 8 messages s.unbroken in (g.0, items_laid subscription 8 g.0 messages g.1)

  -- bytes that are a packet with these messages show that nothing is at fault
  unfaulted : (bytes : List ℕ) (contents : List Content) → LaidPacket subscription bytes number contents → drop 8 bytes ≡ messages → packet_fault subscription number messages ≡ None
  unfaulted bytes contents l e =
      let longest = l.header.longest in
      let body = subst (λ ms. LaidMessages subscription ms contents) e l.messages in
      unsound record {
        short = omega (arith, ap length e, length-drop 8 bytes);
        number_good = l.number_good;
        some = some_bytes body l.some;
        unbroken = ap first_refused (laid_items subscription 8 body) ∙ none_refused 8 contents;
      }

  -- what is at fault is never the room
  not_room : (r : Returned) → packet_fault subscription number messages ≡ Some r → r ≡ alone 9 → ⊥
  unfolding packet_fault
  not_room r e room = by (leb (length messages) 8184) (in_range number) e
    where
      by_body : (ms : List ℕ) → messages_fault subscription ms ≡ Some r → ⊥
      by_body [] e = let z : ◌≡◌ {A = ℕ} 0 1 = cc in omega arith
      by_body (b ∷ bs) e = refused_placed subscription 8 (b ∷ bs) r e room

      by : (l n : Bool) → cond l (cond n (messages_fault subscription messages) (Some (alone 4))) (Some (alone 1)) ≡ Some r → ⊥
      by true true e = by_body messages e
      by true false e = let four : ◌≡◌ {A = ℕ} 4 9 = ap number_of (same_Some (alone 4) r e ∙ room) in omega arith
      by false n e = let one : ◌≡◌ {A = ℕ} 1 9 = ap number_of (same_Some (alone 1) r e ∙ room) in omega arith

  module _ (before : List ℕ) where
    no_room : (r : Returned) → packet_fault subscription number messages ≡ Some r → Err r ≡ put_answer (8 + length messages) before → ⊥
    no_room r e a = by (leb (8 + length messages) (length before)) a
      where
        by : (t : Bool) → Err r ≡ cond t (Ok (8 + length messages)) (Err (alone 9)) → ⊥
        by true a = let z : ◌≡◌ {A = ℕ} 0 1 = cc in omega arith
        by false a = not_room r e (cc)

    pub packet_refused : (r : Returned) → packet_fault subscription number messages ≡ Some r → WrotePacket subscription number messages before before (Err r)
    packet_refused r e = record {
      answers = sym (ap (λ f. or_fault f (packet_bytes subscription number messages) before) e);
      leaves = sym (ap (λ f. put_unless f (packet_bytes subscription number messages) before) e);
      laid = λ contents h a. let z : ◌≡◌ {A = ℕ} 0 1 = cc in absurd (omega arith);
      reads = λ contents h a. let z : ◌≡◌ {A = ℕ} 0 1 = cc in absurd (omega arith);
      refuses = (λ a. absurd (no_room r e a), λ p. let f = unfaulted p.0 p.1 p.2 p.3 in let z : ◌≡◌ {A = ℕ} 0 1 = cc in absurd (omega arith));
    }

    module _ (after own : List ℕ) (answer : Result ℕ Returned) (fault : packet_fault subscription number messages ≡ None) (is : own ≡ packet_bytes subscription number messages) (given : answer ≡ put_answer (length own) before) (left : after ≡ put own before) where
      packet_answer : answer ≡ put_answer (length (packet_bytes subscription number messages)) before
      packet_answer = subst (λ l. answer ≡ put_answer (length l) before) is given

      packet_after : after ≡ put (packet_bytes subscription number messages) before
      packet_after = subst (λ l. after ≡ put l before) is left

      front : answer ≡ Ok (8 + length messages) → take (8 + length messages) after ≡ packet_bytes subscription number messages
      front e = by (leb (length (packet_bytes subscription number messages)) (length before)) refl
        where
          by : (t : Bool) → leb (length (packet_bytes subscription number messages)) (length before) ≡ t → take (8 + length messages) after ≡ packet_bytes subscription number messages
          by true t = ap (take (8 + length messages)) (packet_after ∙ cond-true _ _ _ t) ∙ take_at (packet_bytes subscription number messages) (drop (length (packet_bytes subscription number messages)) before) (8 + length messages) (omega arith)
          by false t = let f = packet_answer ∙ cond-false _ _ _ t in let z : ◌≡◌ {A = ℕ} 0 1 = cc in absurd (omega arith)

      laid_front : (contents : List Content) → LaidMessages subscription messages contents → answer ≡ Ok (8 + length messages) → LaidPacket subscription (take (8 + length messages) after) number contents
      laid_front contents h e = subst (λ l. LaidPacket subscription l number contents) (sym (front e)) (packet_laid contents (sound fault) h)

      pub packet_put : WrotePacket subscription number messages before after answer
      packet_put = record {
        answers = packet_answer ∙ sym (ap (λ f. or_fault f (packet_bytes subscription number messages) before) fault);
        leaves = packet_after ∙ sym (ap (λ f. put_unless f (packet_bytes subscription number messages) before) fault);
        laid = laid_front;
        reads = λ contents h e. (packets_agree subscription (take (8 + length messages) after) number contents).1 (laid_front contents h e);
        refuses = (
          λ _. let c = contents_of_lem (sound fault) in (packet_bytes subscription number messages, c.0, packet_laid c.0 (sound fault) c.1, refl),
          λ _. let len : length (packet_bytes subscription number messages) ≡ 8 + length messages = omega arith in packet_answer ∙ ap (λ n. put_answer n before) len,
        );
      }

-- the rows above the messages
pub fault_length : (subscription number : ℕ) (messages : List ℕ) → 8184 < length messages → packet_fault subscription number messages ≡ Some (alone 1)
unfolding packet_fault
fault_length subscription number messages h = cond-false _ _ _ (lt-leb _ _ h)

module _ (subscription number : ℕ) (messages : List ℕ) (short : length messages ≤ 8184) where
  pub fault_number : in_range number ≡ false → packet_fault subscription number messages ≡ Some (alone 4)
  unfolding packet_fault
  fault_number n = cond-true _ _ _ (le-leb _ _ short) ∙ cond-false _ _ _ n

  pub fault_messages : (o : Option Returned) → in_range number ≡ true → o ≡ messages_fault subscription messages → packet_fault subscription number messages ≡ o
  unfolding packet_fault
  fault_messages o n e = cond-true _ _ _ (le-leb _ _ short) ∙ cond-true _ _ _ n ∙ sym e

-- the heartbeat
module _ (subscription number : ℕ) (before : List ℕ) where
  module _ (after own : List ℕ) (answer : Result ℕ Returned) (high : number ≤ 4294967294) (is : own ≡ packet_header Heartbeat 8 subscription number) (given : answer ≡ put_answer (length own) before) (left : after ≡ put own before) where
    beat_answer : answer ≡ put_answer 8 before
    beat_answer = subst (λ l. answer ≡ put_answer (length l) before) is given

    beat_after : after ≡ put (packet_header Heartbeat 8 subscription number) before
    beat_after = subst (λ l. after ≡ put l before) is left

    beat_laid : LaidHeartbeat subscription (packet_header Heartbeat 8 subscription number) number
    beat_laid = record { header = record { shortest = omega arith; longest = omega arith; length_field = refl; type_field = refl; subscription_field = refl; number_field = back32 number (omega arith) }; all = refl; high = high }

    beat_front : answer ≡ Ok 8 → LaidHeartbeat subscription (take 8 after) number
    beat_front e = by (leb 8 (length before)) refl
      where
        by : (t : Bool) → leb 8 (length before) ≡ t → LaidHeartbeat subscription (take 8 after) number
        by true t = subst (λ l. LaidHeartbeat subscription l number) (sym (ap (take 8) (beat_after ∙ cond-true _ _ _ t) ∙ take_at (packet_header Heartbeat 8 subscription number) (drop 8 before) 8 refl)) beat_laid
        by false t = let f = beat_answer ∙ cond-false _ _ _ t in let z : ◌≡◌ {A = ℕ} 0 1 = cc in absurd (omega arith)

    pub heartbeat_put : WroteHeartbeat subscription number before after answer
    heartbeat_put =
        let f = cond-true (leb number 4294967294) None (Some (alone 4)) (le-leb _ _ high) in
        record {
          answers = beat_answer ∙ sym (ap (λ f. or_fault f (packet_header Heartbeat 8 subscription number) before) f);
          leaves = beat_after ∙ sym (ap (λ f. put_unless f (packet_header Heartbeat 8 subscription number) before) f);
          laid = beat_front;
          reads = λ e. (heartbeats_agree subscription (take 8 after) number).1 (beat_front e);
          refuses = (λ _. (packet_header Heartbeat 8 subscription number, beat_laid), λ _. beat_answer);
        }
