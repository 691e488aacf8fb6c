-- The check of a packet, row by row.
use Rattle.std.proofs.Common.{◌≡◌, ℕ, ◌<◌, Bool, true, false, cond, List, [], ◌∷◌, length, drop, Some, None, Ok, Err, Option, Result, sym, refl, ap, ◌∙◌, arith, length-drop}
use Rattle.std.proofs.lemmas.Bool.{ltb-true}
use Rattle.codes.specs.Refusals.{Returned, placed}
use Rattle.codes.specs.declared.packet.PacketType.TheVariants.{Messages}
use Rattle.messages.specs.Content.{Content}
use Rattle.feed.specs.Items.{Item, good, refused, item_then, items}
use Rattle.feed.specs.Packets.{good_body, bodied, header_verdict, packet_verdict}
use Rattle.feed.proofs.Steps.{items_then}
use Rattle.feed.specs.declared.packet.Header.{Header}
use Rattle.kinds.specs.Meaning.{Meaning}
use Rattle.runs.proofs.Headers.{read_header}
use Rattle.runs.specs.Verdicts.{or_else, fault, refused_for, unless, past, checked}
use Rattle.runs.specs.States.{contents_of}

module _ (K : Meaning) (subscription : ℕ) (waiting : Bool) (bytes : List ℕ) where
  -- refused for its header
  pub checked_refused : (r : Returned) → Err r ≡ packet_verdict subscription bytes → Err r ≡ checked K subscription waiting bytes
  unfolding checked
  checked_refused r e = ap (past K waiting (items subscription 8 (drop 8 bytes))) e

  -- or by the rows below
  module _ (h : Header) (held : List ℕ) (read : Ok h ≡ packet_verdict subscription bytes) (whole : held ≡ bytes) where
    checked_past : (o : Option Returned) → o ≡ refused_for K waiting h (items h.subscription 8 (drop 8 held)) → checked K subscription waiting bytes ≡ unless o h
    unfolding checked
    checked_past o f =
        let own = (read_header subscription bytes h read).0 in
        sym
        (ap (λ r. unless r h) (f ∙ ap (λ s. refused_for K waiting h (items s 8 (drop 8 held))) own ∙ ap (λ bs. refused_for K waiting h (items subscription 8 (drop 8 bs))) whole)
        ∙ ap (past K waiting (items subscription 8 (drop 8 bytes))) read)

    pub checked_faulty : (r : Returned) → Some r ≡ refused_for K waiting h (items h.subscription 8 (drop 8 held)) → checked K subscription waiting bytes ≡ Err r
    checked_faulty r f = checked_past (Some r) f

    pub checked_good : None ≡ refused_for K waiting h (items h.subscription 8 (drop 8 held)) → checked K subscription waiting bytes ≡ Ok h
    checked_good f = checked_past None f

or_else_none : (a b : Option Returned) → None ≡ or_else a b → a ≡ None
or_else_none None b e = refl
or_else_none (Some r) b e = cc

some_good : (K : Meaning) (number : ℕ) (is : List Item) → 0 < length is → fault K number is ≡ None → 0 < length (contents_of is)
some_good K number [] lt e = lt
some_good K number (refused r ∷ rest) lt e = absurd cc
some_good K number (good offset c ∷ rest) lt e = omega arith

some_item : (offset : ℕ) (v : Result Content Returned) (rest : Content → List Item) → 0 < length (item_then offset v rest)
some_item offset (Ok c) rest = omega arith
some_item offset (Err e) rest = omega arith

if_good : (b : Bool) (g h : Header) (r : Returned) → Ok h ≡ cond b (Ok g) (Err r) → (h ≡ g) × (b ≡ true)
if_good true g h r e = (cc, refl)
if_good false g h r e = absurd cc

long_body : (len : ℕ) (v : Result Header Returned) (h : Header) → Ok h ≡ bodied len v → good_body h.kind len ≡ true
long_body len (Err r) h e = cc
long_body len (Ok g) h e = let u = if_good (good_body g.kind len) g h (placed 5 8) e in ap (λ (k : Header). good_body k.kind len) u.0 ∙ u.1

-- an M packet that is not refused has a first message
pub first_there : (K : Meaning) (subscription : ℕ) (waiting : Bool) (bytes : List ℕ) (h : Header) (held : List ℕ) → Ok h ≡ packet_verdict subscription bytes → held ≡ bytes → None ≡ refused_for K waiting h (items h.subscription 8 (drop 8 held)) → h.kind ≡ Messages → 0 < length (contents_of (items h.subscription 8 (drop 8 held)))
unfolding packet_verdict
first_there K subscription waiting bytes h held e whole none kind =
    let good = long_body (length bytes) (header_verdict subscription bytes) h e in
    let long : 8 < length bytes = ltb-true 8 (length bytes) (rw kind at good) in
    let more : 0 < length (drop 8 held) = omega (arith, length-drop 8 held, ap length whole) in
    let some : 0 < length (items h.subscription 8 (drop 8 held)) = rw (items_then h.subscription 8 (drop 8 held) more) (some_item 8 _ _) in
    some_good K h.number (items h.subscription 8 (drop 8 held)) some (or_else_none (fault K h.number (items h.subscription 8 (drop 8 held))) _ none)
