-- The reader's answer is the verdict, and a content exactly where the bytes are laid out as it.
use Rattle.std.proofs.Common.{◌≡◌, ℕ, ◌↔◌, List, take, IfSome, IfOk, Some, None, Ok, Option, Result, sym, ap, ◌∙◌, arith}
use Rattle.std.specs.Option.{option_map, ok_or}
use Rattle.messages.specs.Content.{Content, size}
use Rattle.messages.specs.Layout.{Begins}
use Rattle.messages.specs.Messages.{content, own_bytes}
use Rattle.codes.specs.Refusals.{answered}
use Rattle.messages.specs.Verdict.{message, judged, verdict}
use Rattle.messages.specs.declared.message.Message.{Message}
use Rattle.codes.specs.declared.refusal.Refusal.{Refusal}
use Rattle.codes.specs.declared.refusal.Refusal.TheVariants.{BrokenMessage}
use Rattle.messages.proofs.Layouts.{laid_read}
use Rattle.messages.proofs.Readings.{read_laid}

judged_some : (offset : ℕ) (o : Option Content) (c : Content) → judged offset o ≡ Ok c → o ≡ Some c
judged_some offset (Some d) c e = cc
judged_some offset None c e = let z : ◌≡◌ {A = ℕ} 0 1 = cc in absurd (omega arith)

module _ (subscription offset : ℕ) (bytes : List ℕ) where
  pub verdict_is : (o : Option Message) (r : Result Message Refusal) → r ≡ ok_or o (BrokenMessage offset) → option_map content o ≡ message subscription bytes → answered content r ≡ verdict subscription offset bytes
  verdict_is (Some m) r f e = rw f (ap (judged offset) e)
  verdict_is None r f e = rw f (ap (judged offset) e)

  pub verdict_laid : (c : Content) → (verdict subscription offset bytes ≡ Ok c) ↔ Begins subscription bytes c
  verdict_laid c = (
    λ e. read_laid subscription bytes c (judged_some offset (message subscription bytes) c e),
    λ b. ap (verdict subscription offset) b.joined ∙ ap (judged offset) (laid_read subscription b.own b.rest c b.laid),
  )

  pub laid_is : (r : Result Message Refusal) → answered content r ≡ verdict subscription offset bytes → (c : Content) → (answered content r ≡ Ok c) ↔ Begins subscription bytes c
  laid_is r v c = let h = verdict_laid c in (λ e. h.0 (sym v ∙ e), λ b. v ∙ h.1 b)

pub own_is : (offset : ℕ) (bytes : List ℕ) (o : Option Message) (r : Result Message Refusal) → r ≡ ok_or o (BrokenMessage offset) → IfSome o (λ m. own_bytes m ≡ take (size (content m)) bytes) → IfOk r (λ m. own_bytes m ≡ take (size (content m)) bytes)
own_is offset bytes (Some m) r e h = rw e h
own_is offset bytes None r e h = rw e tt
