-- Joined messages checked one after the other, and put into a buffer behind a header.
use Rattle.std.proofs.Common.{◌≡◌, ℕ, ◌+◌, ◌-◌, ◌<◌, ◌≤◌, List, [], ◌∷◌, ◌++◌, length, drop, Some, None, Ok, Err, sym, refl, ap, ◌∙◌, append_assoc, arith, length-drop}
use borrow.Rule.Slice.PartMut.{put_mid}
use Rattle.std.proofs.lemmas.List.{take_at, drop_at, drop-drop}
use Rattle.std.proofs.lemmas.Bool.{cond-true, le-leb}
use Rattle.codes.specs.Refusals.{Returned}
use Rattle.messages.specs.Content.{Content, size}
use Rattle.feed.specs.Items.{items}
use Rattle.messages.specs.Verdict.{verdict}
use Rattle.feed.proofs.Steps.{size_fits, items_good, items_refused, items_none}
use Rattle.encode.specs.Packing.{first_refused, messages_fault}
use Rattle.encode.specs.Writing.{put_answer, put}

pub fault_some : (subscription : ℕ) (messages : List ℕ) → 0 < length messages → messages_fault subscription messages ≡ first_refused (items subscription 8 messages)
fault_some subscription [] h = absurd (omega arith)
fault_some subscription (b ∷ bs) h = refl

-- one more message
module _ (subscription : ℕ) (messages : List ℕ) (at : ℕ) where
  pub check_good : at < length messages → (c : Content) (n : ℕ) → Ok c ≡ verdict subscription (8 + at) (drop at messages) → n ≡ size c → (at + n ≤ length messages) × (first_refused (items subscription (8 + at) (drop at messages)) ≡ first_refused (items subscription (8 + (at + n)) (drop (at + n) messages)))
  check_good inside c n read is =
      let long = length-drop at messages in
      let fits = size_fits subscription (8 + at) (drop at messages) c (sym read) in
      let first = items_good subscription (8 + at) (drop at messages) c (omega arith) (sym read) in
      let rest = drop-drop (size c) at messages in
      let place : 8 + at + size c ≡ 8 + (at + n) = omega arith in
      let after : at + size c ≡ at + n = omega arith in
      (omega arith, ap first_refused first ∙ ap (λ l. first_refused (items subscription (8 + at + size c) l)) rest ∙ ap (λ k. first_refused (items subscription k (drop (at + size c) messages))) place ∙ ap (λ k. first_refused (items subscription (8 + (at + n)) (drop k messages))) after)

  pub check_refused : at < length messages → (r : Returned) → Err r ≡ verdict subscription (8 + at) (drop at messages) → first_refused (items subscription (8 + at) (drop at messages)) ≡ Some r
  check_refused inside r read = ap first_refused (items_refused subscription (8 + at) (drop at messages) r (omega (arith, length-drop at messages)) (sym read))

  pub check_end : length messages ≤ at → first_refused (items subscription (8 + at) (drop at messages)) ≡ None
  check_end past = ap first_refused (items_none subscription (8 + at) (drop at messages) (omega (arith, length-drop at messages)))

pub same_parts : (a b c d e f : List ℕ) → a ≡ d → b ≡ e → c ≡ f → a ++ b ++ c ≡ d ++ e ++ f
same_parts a b c d e f p q r = cc

-- parts put one after the other
pub put_next : (front part out : List ℕ) (a e : ℕ) → length front ≡ a → e ≡ a + length part → put_mid a (e - a) (front ++ drop a out) part ≡ front ++ part ++ drop e out
put_next front part out a e is end =
    let place : a + (e - a) ≡ e = omega arith in
    ap (λ l. l ++ (part ++ drop (e - a) (drop a (front ++ drop a out)))) (take_at front (drop a out) a is)
    ∙ ap (λ l. front ++ (part ++ drop (e - a) l)) (drop_at front (drop a out) a is)
    ∙ ap (λ l. front ++ (part ++ l)) (drop-drop (e - a) a out ∙ ap (λ k. drop k out) place)
    ∙ sym (append_assoc front part (drop e out))

module _ (own out : List ℕ) (n : ℕ) (is : length own ≡ n) where
  pub answer_whole : n ≤ length out → Ok n ≡ put_answer (length own) out
  answer_whole h = sym (cond-true _ _ _ (le-leb (length own) (length out) (omega arith)) ∙ ap Ok is)

  pub out_whole : n ≤ length out → own ++ drop n out ≡ put own out
  out_whole h = ap (λ k. own ++ drop k out) (sym is) ∙ sym (cond-true _ _ _ (le-leb (length own) (length out) (omega arith)))
