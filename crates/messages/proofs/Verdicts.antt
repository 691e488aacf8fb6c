-- What the verdict comes to at each type of message, from the header and the message's own bytes.
use Rattle.std.proofs.Common.{◌≡◌, ℕ, ◌<◌, ◌≤◌, Bool, true, false, cond, if◌then◌else◌, ◌&&◌, eqb, leb, List, length, take, IfSome, Some, None, Option, sym, refl, ap, ◌∙◌, arith}
use Rattle.std.proofs.lemmas.Bool.{cond-true, cond-false, eq-eqb, ne_eqb, le-leb, and_from}
use Rattle.std.proofs.lemmas.Bool.Decides.{nat_tests}
use Rattle.messages.specs.Content.{Content, size}
use Rattle.messages.specs.Messages.{content, own_bytes}
use Rattle.messages.specs.Verdict.{message, cut, when, quote_in, imbalance_in, event_in}
use Rattle.messages.specs.Wire.{byte, be16}
use Rattle.codes.specs.Codes.{coded, message_code, message_types}
use Rattle.codes.specs.declared.message.MessageType.{MessageType}
use Rattle.codes.specs.declared.message.MessageType.TheVariants.{Quote, Imbalance, Event}
use Rattle.codes.proofs.Cases.{coded_is}
use Rattle.messages.specs.Header.{header_in, header_at_front}
use Rattle.messages.specs.declared.header.RawHeader.{RawHeader}
use Rattle.messages.specs.declared.message.Message.{Message}
use Rattle.std.specs.Bool.{then_some}
use Rattle.std.specs.Option.{option_map}

module _ (bytes : List ℕ) where
  -- a header with this length, and all of its message there
  pub cut_whole : (len : ℕ) (read : List ℕ → Option Content) → be16 bytes 0 ≡ len → len ≤ length bytes → cut len bytes read ≡ read (take len bytes)
  cut_whole len read e h = cond-true _ _ _ (and_from _ _ (eq-eqb _ _ e) (le-leb _ _ h))

  -- what is cut from the front of the bytes by the length that the header says
  module _ (len said : ℕ) (is : said ≡ be16 bytes 0) where
    abbrev whole : Option (List ℕ)
    whole = if eqb said len && leb len (length bytes) then Some (take len bytes) else None

    pub cut_none : (read : List ℕ → Option Content) → None ≡ whole → cut len bytes read ≡ None
    cut_none read e = by (eqb said len && leb len (length bytes)) refl e
      where
        by : (b : Bool) → (eqb said len && leb len (length bytes)) ≡ b → None ≡ cond b (Some (take len bytes)) None → cut len bytes read ≡ None
        by true t e = let z : ◌≡◌ {A = ℕ} 0 1 = cc in absurd (omega arith)
        by false t e = cond-false _ _ _ (ap (λ n. eqb n len && leb len (length bytes)) (sym is) ∙ t)

    pub cut_some : (read : List ℕ → Option Content) (own : List ℕ) → Some own ≡ whole → (cut len bytes read ≡ read own) × (own ≡ take len bytes)
    cut_some read own e = by (eqb said len && leb len (length bytes)) refl e
      where
        by : (b : Bool) → (eqb said len && leb len (length bytes)) ≡ b → Some own ≡ cond b (Some (take len bytes)) None → (cut len bytes read ≡ read own) × (own ≡ take len bytes)
        by true t e = let same : own ≡ take len bytes = cc in (cond-true _ _ _ (ap (λ n. eqb n len && leb len (length bytes)) (sym is) ∙ t) ∙ ap read (sym same), same)
        by false t e = let z : ◌≡◌ {A = ℕ} 0 1 = cc in absurd (omega arith)

-- a message handed out where its own bytes are good
pub handed_out : (good : Bool) (m : Message) (r : Option Message) → r ≡ then_some good m → option_map content r ≡ when good (content m)
handed_out true m r e = ap (option_map content) e
handed_out false m r e = ap (option_map content) e

pub handed_own : (bytes : List ℕ) (good : Bool) (m : Message) (r : Option Message) → r ≡ then_some good m → own_bytes m ≡ take (size (content m)) bytes → IfSome r (λ m. own_bytes m ≡ take (size (content m)) bytes)
handed_own bytes good m None e own = tt
handed_own bytes true m (Some k) e own = let same : k ≡ m = cc in ap own_bytes same ∙ own ∙ ap (λ m. take (size (content m)) bytes) (sym same)
handed_own bytes false m (Some k) e own = absurd cc

pub header_is : (bytes : List ℕ) (h : RawHeader) → Some h ≡ header_at_front bytes → h ≡ header_in bytes
header_is bytes h e = by (leb 8 (length bytes)) e
  where
    by : (b : Bool) → Some h ≡ cond b (Some (header_in bytes)) None → h ≡ header_in bytes
    by true e = cc
    by false e = let z : ◌≡◌ {A = ℕ} 0 1 = cc in absurd (omega arith)

module _ (subscription : ℕ) (bytes : List ℕ) where
  -- no message is there
  pub message_short : length bytes < 8 → None ≡ message subscription bytes
  unfolding message
  message_short h = grind (arith, nat_tests)

  pub message_elsewhere : (byte bytes 3 ≡ subscription → ⊥) → None ≡ message subscription bytes
  unfolding message
  message_elsewhere h = sym (cond-false _ _ _ (ne_eqb _ _ h))

  module _ (own : byte bytes 3 ≡ subscription) where
    pub message_quote : byte bytes 2 ≡ 113 → message subscription bytes ≡ cut 52 bytes quote_in
    unfolding message
    message_quote t = cond-true _ _ _ (eq-eqb _ _ own) ∙ cond-true _ _ _ (eq-eqb _ _ t)

    pub message_imbalance : byte bytes 2 ≡ 105 → message subscription bytes ≡ cut 60 bytes imbalance_in
    unfolding message
    message_imbalance t = cond-true _ _ _ (eq-eqb _ _ own) ∙ cond-false _ _ _ (ap (λ b. eqb b 113) t) ∙ cond-true _ _ _ (eq-eqb _ _ t)

    pub message_event : byte bytes 2 ≡ 118 → message subscription bytes ≡ cut 44 bytes event_in
    unfolding message
    message_event t = cond-true _ _ _ (eq-eqb _ _ own) ∙ cond-false _ _ _ (ap (λ b. eqb b 113) t) ∙ cond-false _ _ _ (ap (λ b. eqb b 105) t) ∙ cond-true _ _ _ (eq-eqb _ _ t)

    pub message_other : (byte bytes 2 ≡ 113 → ⊥) → (byte bytes 2 ≡ 105 → ⊥) → (byte bytes 2 ≡ 118 → ⊥) → None ≡ message subscription bytes
    unfolding message
    message_other q i v = sym (cond-true _ _ _ (eq-eqb _ _ own) ∙ cond-false _ _ _ (ne_eqb _ _ q) ∙ cond-false _ _ _ (ne_eqb _ _ i) ∙ cond-false _ _ _ (ne_eqb _ _ v))

-- the code that a type was read from
pub typed_code : (code : ℕ) (read : Option MessageType) (is t : MessageType) → read ≡ coded message_code message_types code → Some is ≡ read → is ≡ t → code ≡ message_code t
typed_code code read is t reads some same = coded_is message_code message_types code t (sym reads ∙ sym some ∙ ap Some same)

untyped : (code : ℕ) (read : Option MessageType) (t : MessageType) → read ≡ coded message_code message_types code → None ≡ read → coded message_code message_types (message_code t) ≡ Some t → code ≡ message_code t → ⊥
untyped code read t reads none back is = let z = none ∙ reads ∙ ap (coded message_code message_types) is ∙ back in absurd cc

-- what a message of a type comes to, by the header that was read
module _ (subscription : ℕ) (bytes : List ℕ) (h : RawHeader) (read : Some h ≡ header_at_front bytes) where
  pub of_other : (h.subscription ≡ subscription → ⊥) → None ≡ message subscription bytes
  of_other other = message_elsewhere subscription bytes (λ e. other (ap (λ x. x.subscription) (header_is bytes h read) ∙ e))

  module _ (own : h.subscription ≡ subscription) where
    own_byte : byte bytes 3 ≡ subscription
    own_byte = ap (λ x. x.subscription) (sym (header_is bytes h read)) ∙ own

    pub of_no_type : (read_type : Option MessageType) → read_type ≡ coded message_code message_types h.code → None ≡ read_type → (r : Option Message) → r ≡ None → option_map content r ≡ message subscription bytes
    of_no_type read_type reads none r gives =
        let code = ap (λ x. x.code) (header_is bytes h read) in
        ap (option_map content) gives
        ∙ message_other subscription bytes own_byte
        (λ e. untyped h.code read_type Quote reads none refl (code ∙ e))
        (λ e. untyped h.code read_type Imbalance reads none refl (code ∙ e))
        (λ e. untyped h.code read_type Event reads none refl (code ∙ e))

    module _ (len code : ℕ) (in_own : List ℕ → Option Content) (typed : byte bytes 3 ≡ subscription → byte bytes 2 ≡ code → message subscription bytes ≡ cut len bytes in_own) (coded : h.code ≡ code) where
      type_is : message subscription bytes ≡ cut len bytes in_own
      type_is = typed own_byte (ap (λ x. x.code) (sym (header_is bytes h read)) ∙ coded)

      said_is : h.length ≡ be16 bytes 0
      said_is = ap (λ x. x.length) (header_is bytes h read)

      pub none_of_type : (r : Option Message) → r ≡ None → None ≡ (if eqb h.length len && leb len (length bytes) then Some (take len bytes) else None) → option_map content r ≡ message subscription bytes
      none_of_type r gives e = ap (option_map content) gives ∙ sym (type_is ∙ cut_none bytes len h.length said_is in_own e)

      pub some_of_type : (own : List ℕ) (good : Bool) (m : Message) (r : Option Message) → Some own ≡ (if eqb h.length len && leb len (length bytes) then Some (take len bytes) else None) → r ≡ then_some good m → when good (content m) ≡ in_own own → option_map content r ≡ message subscription bytes
      some_of_type own good m r e gives is = handed_out good m r gives ∙ is ∙ sym (type_is ∙ (cut_some bytes len h.length said_is in_own own e).0)
