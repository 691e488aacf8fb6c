-- How the messages of a packet follow one another.
use Rattle.std.proofs.Common.{◌≡◌, ℕ, zero, suc, ◌+◌, ◌-◌, ◌<◌, ◌≤◌, List, [], ◌∷◌, length, take, drop, IfSome, Some, None, Option, Ok, Err, Result, sym, refl, ap, ◌∙◌, arith, length-append, length-drop}
use Rattle.std.proofs.lemmas.List.{drop-drop, take_rest}
use Rattle.messages.specs.Wire.{part}
use Rattle.messages.specs.Content.{Content, quote, imbalance, event, size}
use Rattle.feed.specs.Items.{Item, good, refused, item_then, at_most, items}
use Rattle.messages.specs.Layout.{LaidMessage}
use Rattle.codes.specs.Refusals.{Returned}
use Rattle.messages.specs.Verdict.{verdict}
use Rattle.messages.proofs.Judgements.{verdict_laid}
use Rattle.std.specs.Iterator.{Yields, SkipsThenYields}
use Rattle.std.specs.Option.{option_map, MatchOption}
use Rattle.codes.specs.declared.refusal.Refusal.{Refusal}
use Rattle.messages.specs.declared.message.Message.{Message}
use Rattle.feed.specs.Items.{nth}
use Rattle.feed.specs.Pending.{pending, item_of, Cut, Next}
use Rattle.feed.specs.declared.packet.Messages.{Messages}

pub some_size : (c : Content) → 0 < size c
some_size (quote q) = omega arith
some_size (imbalance i) = omega arith
some_size (event e) = omega arith

pub laid_size : (subscription : ℕ) (own : List ℕ) (c : Content) → LaidMessage subscription own c → length own ≡ size c
laid_size subscription own (quote q) h = h.header.all
laid_size subscription own (imbalance i) h = h.header.all
laid_size subscription own (event e) h = h.header.all

-- a message that is read is wholly there
pub size_fits : (subscription offset : ℕ) (bytes : List ℕ) (c : Content) → verdict subscription offset bytes ≡ Ok c → size c ≤ length bytes
size_fits subscription offset bytes c e =
    let b = (verdict_laid subscription offset bytes c).0 e in
    omega (arith, laid_size subscription b.own c b.laid, ap length b.joined, length-append b.own b.rest)

then_same : (offset : ℕ) (v : Result Content Returned) (f g : Content → List Item) → ((c : Content) → f c ≡ g c) → item_then offset v f ≡ item_then offset v g
then_same offset (Ok c) f g h = ap (λ l. good offset c ∷ l) (h c)
then_same offset (Err e) f g h = refl

rest_short : (k b : ℕ) (bs : List ℕ) (c : Content) → suc (length bs) ≤ suc k → length (drop (size c) (b ∷ bs)) ≤ k
rest_short k b bs c h = omega (arith, length-drop (size c) (b ∷ bs), some_size c)

-- as many messages as there are bytes are enough
enough : (j k subscription offset : ℕ) (bytes : List ℕ) → length bytes ≤ j → length bytes ≤ k → at_most j subscription offset bytes ≡ at_most k subscription offset bytes
enough zero zero subscription offset bytes h i = refl
enough zero (suc k) subscription offset [] h i = refl
enough zero (suc k) subscription offset (b ∷ bs) h i = absurd (omega arith)
enough (suc j) zero subscription offset [] h i = refl
enough (suc j) zero subscription offset (b ∷ bs) h i = absurd (omega arith)
enough (suc j) (suc k) subscription offset [] h i = refl
enough (suc j) (suc k) subscription offset (b ∷ bs) h i =
    then_same offset (verdict subscription offset (b ∷ bs)) _ _ (λ c. enough j k subscription (offset + size c) (drop (size c) (b ∷ bs)) (rest_short j b bs c h) (rest_short k b bs c i))

-- the first message, and the rest
pub items_then : (subscription offset : ℕ) (bytes : List ℕ) → 0 < length bytes → items subscription offset bytes ≡ item_then offset (verdict subscription offset bytes) (λ c. items subscription (offset + size c) (drop (size c) bytes))
unfolding items
items_then subscription offset [] h = absurd (omega arith)
items_then subscription offset (b ∷ bs) h =
    then_same offset (verdict subscription offset (b ∷ bs)) _ _ (λ c. enough (length bs) (length (drop (size c) (b ∷ bs))) subscription (offset + size c) (drop (size c) (b ∷ bs)) (rest_short (length bs) b bs c (omega arith)) (omega arith))

pub items_none : (subscription offset : ℕ) (bytes : List ℕ) → length bytes ≡ 0 → items subscription offset bytes ≡ []
unfolding items
items_none subscription offset [] h = refl
items_none subscription offset (b ∷ bs) h = absurd (omega arith)

pub items_good : (subscription offset : ℕ) (bytes : List ℕ) (c : Content) → 0 < length bytes → verdict subscription offset bytes ≡ Ok c → items subscription offset bytes ≡ good offset c ∷ items subscription (offset + size c) (drop (size c) bytes)
items_good subscription offset bytes c h e = items_then subscription offset bytes h ∙ ap (λ v. item_then offset v (λ c. items subscription (offset + size c) (drop (size c) bytes))) e

pub items_refused : (subscription offset : ℕ) (bytes : List ℕ) (e : Returned) → 0 < length bytes → verdict subscription offset bytes ≡ Err e → items subscription offset bytes ≡ refused e ∷ []
items_refused subscription offset bytes e h f = items_then subscription offset bytes h ∙ ap (λ v. item_then offset v (λ c. items subscription (offset + size c) (drop (size c) bytes))) f

-- the same at an offset of a packet
module _ (subscription : ℕ) (packet : List ℕ) (at : ℕ) (inside : at < length packet) where
  pub next_good : (c : Content) (n : ℕ) → Ok c ≡ verdict subscription at (drop at packet) → n ≡ size c → (at + n ≤ length packet) × (items subscription at (drop at packet) ≡ good at c ∷ items subscription (at + n) (drop (at + n) packet))
  next_good c n read is =
      let long = length-drop at packet in
      let fits = size_fits subscription at (drop at packet) c (sym read) in
      let first = items_good subscription at (drop at packet) c (omega arith) (sym read) in
      let rest = drop-drop (size c) at packet in
      (omega arith, cc)

  pub next_refused : (e : Returned) → Err e ≡ verdict subscription at (drop at packet) → items subscription at (drop at packet) ≡ refused e ∷ []
  next_refused e read = items_refused subscription at (drop at packet) e (omega (arith, length-drop at packet)) (sym read)

pub next_none : (subscription : ℕ) (packet : List ℕ) (at : ℕ) → length packet ≤ at → items subscription at (drop at packet) ≡ []
next_none subscription packet at h = items_none subscription at (drop at packet) (omega (arith, length-drop at packet))

-- what a call of `next` takes of what is still to come
pub pending_none : (s : Messages) → length s.packet.now ≤ s.at → pending s ≡ []
pending_none s past = next_none s.subscription s.packet.now s.at past

module _ (s : Messages) (inside : s.at < length s.packet.now) where
  abbrev rest : List ℕ
  rest = take (length s.packet.now - s.at) (drop s.at s.packet.now)

  pub pending_good : (c : Content) (n : ℕ) → Ok c ≡ verdict s.subscription s.at rest → n ≡ size c → (s.at + n ≤ length s.packet.now) × (pending s ≡ good s.at c ∷ pending record { packet = s.packet; at = s.at + n; subscription = s.subscription })
  pending_good c n read is = next_good s.subscription s.packet.now s.at inside c n (rw take_rest at read) is

  pub own_part : (own : List ℕ) (n : ℕ) → own ≡ take n rest → own ≡ part s.packet.now s.at n
  own_part own n is = rw take_rest at is

  pub pending_refused : (r : Returned) → Err r ≡ verdict s.subscription s.at rest → pending s ≡ refused r ∷ pending record { packet = s.packet; at = length s.packet.now; subscription = s.subscription }
  pending_refused r read =
      let last = next_none s.subscription s.packet.now (length s.packet.now) (omega arith) in
      next_refused s.subscription s.packet.now s.at inside r (rw take_rest at read) ∙ ap (λ l. refused r ∷ l) (sym last)

-- the item after so many calls of `next` is the one of that index, with its own bytes
nth_here : (n : ℕ) (s u : Messages) (r : Option (Result (ℕ × Message) Refusal)) → Next s r u → MatchOption r (0 ≤ n) (λ _. 0 ≡ n) → (option_map item_of r ≡ nth n (pending s)) × IfSome r (Cut s.packet.now)
nth_here n s u None next m = (sym (ap (nth n) next.0), tt)
nth_here n s u (Some x) next m = (sym (ap (λ k. nth k (pending s)) (sym m) ∙ ap (nth 0) next.0), next.1)

nth_from : (xs : List (Result (ℕ × Message) Refusal)) (n : ℕ) (s t u : Messages) (r : Option (Result (ℕ × Message) Refusal)) → Yields Next s xs t → Next t r u → MatchOption r (length xs ≤ n) (λ _. length xs ≡ n) → (option_map item_of r ≡ nth n (pending s)) × IfSome r (Cut s.packet.now)
nth_from [] n s t u r same next m = rw same (nth_here n t u r next m)
nth_from (x ∷ xs) zero s t u None (j, first, rest) next m = absurd (omega arith)
nth_from (x ∷ xs) zero s t u (Some y) (j, first, rest) next m = absurd (omega arith)
nth_from (x ∷ xs) (suc n) s t u None (j, first, rest) next m = ((nth_from xs n j t u None rest next (omega arith)).0 ∙ sym (ap (nth (suc n)) first.0), tt)
nth_from (x ∷ xs) (suc n) s t u (Some y) (j, first, rest) next m =
    let later = nth_from xs n j t u (Some y) rest next (omega arith) in
    (later.0 ∙ sym (ap (nth (suc n)) first.0), rw (sym (ap (λ b. b.now) first.2)) later.1)

pub nth_is : (s u : Messages) (n : ℕ) (r : Option (Result (ℕ × Message) Refusal)) → SkipsThenYields Next s n r u → (option_map item_of r ≡ nth n (pending s)) × IfSome r (Cut s.packet.now)
nth_is s u n r (xs, (t, along, next), m) = nth_from xs n s t u r along next m
