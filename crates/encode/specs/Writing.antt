-- What a writer answers, and what it leaves in the buffer.
use Rattle.std.specs.Prelude.{◌≡◌, ℕ, cond, ◌↔◌, List, ◌++◌, length, take, drop, Ok, Err, Result, nat_le}
use Rattle.codes.specs.Refusals.{Returned, alone, placed}
use Rattle.messages.specs.Content.{Content, size}
use Rattle.messages.specs.Layout.{LaidMessage}
use Rattle.messages.specs.Verdict.{verdict}
use Rattle.encode.specs.Encode.{encoded, writable}

-- so many bytes put at the front of a buffer, or refusal 9
abbrev pub put_answer : ℕ → List ℕ → Result ℕ Returned
put_answer len out = cond (nat_le len (length out)) (Ok len) (Err (alone 9))

abbrev pub put : List ℕ → List ℕ → List ℕ
put own out = cond (nat_le (length own) (length out)) (own ++ drop (length own) out) out

-- a message written: refusal 5 at 0 where it cannot be, then 9
unfoldable pub written : Content → List ℕ → Result ℕ Returned
written c out = cond (writable c) (put_answer (size c) out) (Err (placed 5 0))

unfoldable pub buffer : ℕ → Content → List ℕ → List ℕ
buffer subscription c out = cond (writable c) (put (encoded subscription c) out) out

pub record Wrote (subscription : ℕ) (c : Content) (before after : List ℕ) (answer : Result ℕ Returned) : Type 0 where
  pub answers : answer ≡ written c before
  pub leaves : after ≡ buffer subscription c before
  -- what is written is laid out as the content, and is read as it
  pub laid : answer ≡ Ok (size c) → LaidMessage subscription (take (size c) after) c
  pub reads : answer ≡ Ok (size c) → (offset : ℕ) → verdict subscription offset after ≡ Ok c
  -- refused for its fields exactly where no bytes are laid out as it
  pub refuses : (answer ≡ Err (placed 5 0)) ↔ ((bytes : List ℕ) → LaidMessage subscription bytes c → ⊥)
