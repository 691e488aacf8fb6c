use Rattle.std.proofs.Common.{◌≡◌, ℕ, ◌+◌, ◌-◌, List, ◌++◌, length, drop, refl, ap, ◌∙◌, arith, length-append}
use borrow.Rule.Slice.PartMut.{put_mid}
use Rattle.encode.proofs.Packings.{put_next, answer_whole, out_whole}
use Rattle.encode.proofs.parts.put_parts.Goals as goal

front_length : (header middle : List ℕ) → length header ≡ 8 → length (header ++ middle) ≡ 8 + length middle
front_length header middle eight = length-append header middle ∙ ap (λ n. n + length middle) eight

own_length : (header middle tail : List ℕ) → length header ≡ 8 → length (header ++ middle ++ tail) ≡ 8 + length middle + length tail
own_length header middle tail eight = length-append (header ++ middle) tail ∙ ap (λ n. n + length tail) (front_length header middle eight)

pub returns : goal.returns
returns c =
    let header = c.args.header.now in
    let middle = c.args.middle.now in
    let tail = c.args.tail.now in
    let out = c.args.out.now in
    let own = own_length header middle tail (omega arith) in
    let end = 8 + length middle in
    let n = 8 + length middle + length tail in
    record {
      answer = answer_whole (header ++ middle ++ tail) out n own c.if-length-out.false;
      after =
          ap (λ (l : List ℕ). put_mid end (n - end) (put_mid 8 (end - 8) (l ++ drop 8 out) c.copy_from_slice-2.new.self) c.copy_from_slice-3.new.self) c.copy_from_slice.ensures.after
          ∙ ap (λ (l : List ℕ). put_mid end (n - end) (put_mid 8 (end - 8) (header ++ drop 8 out) l) c.copy_from_slice-3.new.self) c.copy_from_slice-2.ensures.after
          ∙ ap (λ (l : List ℕ). put_mid end (n - end) (put_mid 8 (end - 8) (header ++ drop 8 out) middle) l) c.copy_from_slice-3.ensures.after
          ∙ ap (λ (l : List ℕ). put_mid end (n - end) l tail) (put_next header middle out 8 end (omega arith) refl)
          ∙ put_next (header ++ middle) tail out end n (front_length header middle (omega arith)) refl
          ∙ out_whole (header ++ middle ++ tail) out n own c.if-length-out.false;
    }
