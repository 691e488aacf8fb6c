-- A message that is put into a buffer, or refused.
use Rattle.std.proofs.Common.{◌≡◌, ℕ, Bool, true, false, leb, List, ◌++◌, length, take, drop, Ok, Err, Result, sym, refl, ap, ◌∙◌, subst, arith}
use Rattle.std.proofs.lemmas.List.{take_at}
use Rattle.std.proofs.lemmas.Bool.{cond-true, cond-false}
use Rattle.codes.specs.Refusals.{Returned, placed}
use Rattle.messages.specs.Content.{Content, size}
use Rattle.messages.specs.Layout.{LaidMessage}
use Rattle.messages.proofs.Judgements.{verdict_laid}
use Rattle.feed.proofs.Steps.{laid_size}
use Rattle.encode.specs.Encode.{encoded, writable}
use Rattle.encode.specs.Typed.{Typed}
use Rattle.encode.specs.Writing.{put_answer, put, written, buffer, Wrote}
use Rattle.encode.proofs.Laying.{laid_writable, encoded_laid}

module _ (subscription : ℕ) (c : Content) (before : List ℕ) where
  pub wrote_refused : writable c ≡ false → Wrote subscription c before before (Err (placed 5 0))
  unfolding written buffer
  wrote_refused w = record {
    answers = sym (cond-false _ _ _ w);
    leaves = sym (cond-false _ _ _ w);
    laid = λ e. let z : ◌≡◌ {A = ℕ} 0 1 = cc in absurd (omega arith);
    reads = λ e. let z : ◌≡◌ {A = ℕ} 0 1 = cc in absurd (omega arith);
    refuses = (λ e bytes laid. let t = laid_writable subscription bytes c laid in let z : ◌≡◌ {A = ℕ} 0 1 = cc in omega arith, λ none. refl);
  }

  module _ (own after : List ℕ) (answer : Result ℕ Returned) (typed : Typed c) (w : writable c ≡ true) (is : own ≡ encoded subscription c) (a : answer ≡ put_answer (length own) before) (b : after ≡ put own before) where
    laid_own : LaidMessage subscription own c
    laid_own = subst (λ l. LaidMessage subscription l c) (sym is) (encoded_laid subscription c typed w)

    own_size : length own ≡ size c
    own_size = laid_size subscription own c laid_own

    room : answer ≡ Ok (size c) → after ≡ own ++ drop (length own) before
    room e = by (leb (length own) (length before)) refl
      where
        by : (t : Bool) → leb (length own) (length before) ≡ t → after ≡ own ++ drop (length own) before
        by true t = b ∙ cond-true _ _ _ t
        by false t = let f = a ∙ cond-false _ _ _ t in let z : ◌≡◌ {A = ℕ} 0 1 = cc in absurd (omega arith)

    no_fault : answer ≡ Err (placed 5 0) → ⊥
    no_fault e = by (leb (length own) (length before)) refl
      where
        by : (t : Bool) → leb (length own) (length before) ≡ t → ⊥
        by true t = let f = a ∙ cond-true _ _ _ t in let z : ◌≡◌ {A = ℕ} 0 1 = cc in omega arith
        by false t = let f = a ∙ cond-false _ _ _ t in let z : ◌≡◌ {A = ℕ} 0 1 = cc in omega arith

    pub wrote_put : Wrote subscription c before after answer
    unfolding written buffer
    wrote_put = record {
      answers = a ∙ ap (λ n. put_answer n before) own_size ∙ sym (cond-true _ _ _ w);
      leaves = b ∙ ap (λ l. put l before) is ∙ sym (cond-true _ _ _ w);
      laid = λ e. subst (λ l. LaidMessage subscription l c) (sym (ap (take (size c)) (room e) ∙ take_at own (drop (length own) before) (size c) own_size)) laid_own;
      reads = λ e offset. (verdict_laid subscription offset after c).1 record { own = own; rest = drop (length own) before; joined = room e; laid = laid_own };
      refuses = (λ e. absurd (no_fault e), λ none. absurd (none own laid_own));
    }
