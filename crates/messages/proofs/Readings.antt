-- What is read as a message is laid out as that message.
use Rattle.std.proofs.Common.{◌≡◌, ℕ, ◌<◌, ◌≤◌, Bool, true, false, cond, ◌&&◌, eqb, leb, List, length, take, drop, is_some, Some, None, Option, sym, refl, ◌∙◌, subst, arith, take-append-drop}
use Rattle.std.proofs.lemmas.List.{length-take-le, length-drop, get_or-take}
use Rattle.std.proofs.lemmas.Bool.{leb-true, eqb-true, and_parts}
use Rattle.codes.specs.Codes.{sides, side_code, levels, level_number, auctions, auction_code, event_code}
use Rattle.messages.specs.Content.{Content, quote, imbalance, event}
use Rattle.messages.specs.Layout.{Number, MessageHeader, Named, LaidQuote, LaidImbalance, LaidForm, LaidEvent, LaidMessage, Begins}
use Rattle.messages.specs.Symbols.{well_formed}
use Rattle.messages.specs.Verdict.{message, cut, when, in_range, named, side_at, level_at, auction_at, good_quote, good_imbalance, good_event, good_form, form_of, quote_fields, imbalance_fields, event_fields, quote_in, imbalance_in, event_in}
use Rattle.messages.specs.Wire.{byte, be16, be32, part}
use Rattle.codes.specs.declared.quote.Side.TheVariants as side
use Rattle.codes.specs.declared.quote.Level.TheVariants as level
use Rattle.codes.specs.declared.auction.Auction.TheVariants as auction
use Rattle.codes.specs.declared.event.EventCode.{EventCode}
use Rattle.codes.specs.declared.event.EventCode.TheVariants.{Series, Underlying, Reset}
use Rattle.codes.proofs.Cases.{coded_value, event_is}
use Rattle.messages.proofs.Symbols.{symbol_from}

pub number_from : (n : ℕ) → in_range n ≡ true → Number n
number_from n e = let h = and_parts (leb 1 n) (leb n 4294967294) e in record { low = leb-true 1 n h.0; high = leb-true n 4294967294 h.1 }

named_from_lem : (own : List ℕ) → 40 ≤ length own → named own ≡ true → Named (be32 own 8) (part own 32 8) own
named_from_lem own long e =
    let h = and_parts (in_range (be32 own 8)) (well_formed (part own 32 8)) e in
    let eight : length (part own 32 8) ≡ 8 = length-take-le 8 (drop 32 own) (omega (arith, length-drop 32 own)) in
    record { number_field = refl; symbol_field = refl; number_good = number_from (be32 own 8) h.0; symbol_good = symbol_from (part own 32 8) eight h.1 }

-- the header, from the bytes that the message starts
header_from : (len type subscription : ℕ) (bytes : List ℕ) → 3 < len → (eqb (be16 bytes 0) len && leb len (length bytes)) ≡ true → byte bytes 2 ≡ type → byte bytes 3 ≡ subscription → MessageHeader len type subscription (be32 (take len bytes) 4) (take len bytes)
header_from len type subscription bytes big e kind sub =
    let h = and_parts (eqb (be16 bytes 0) len) (leb len (length bytes)) e in
    let same : (i : ℕ) → i < 4 → byte (take len bytes) i ≡ byte bytes i = λ i small. get_or-take len bytes i 0 (omega arith) in
    let first = same 0 (omega arith) in
    let second = same 1 (omega arith) in
    let field = eqb-true (be16 bytes 0) len h.0 in
    record {
      all = length-take-le len bytes (leb-true len (length bytes) h.1);
      length_field = omega arith;
      type_field = same 2 (omega arith) ∙ kind;
      subscription_field = same 3 (omega arith) ∙ sub;
      stamp_field = refl;
    }

quote_from : (subscription : ℕ) (own : List ℕ) → MessageHeader 52 113 subscription (be32 own 4) own → good_quote own ≡ true → LaidQuote subscription own (quote_fields own)
quote_from subscription own header e =
    let h = and_parts (named own && is_some (side_at own 41) && is_some (level_at own 42)) (is_some (level_at own 43)) e in
    let k = and_parts (named own && is_some (side_at own 41)) (is_some (level_at own 42)) h.0 in
    let l = and_parts (named own) (is_some (side_at own 41)) k.0 in
    record {
      header = header;
      named = named_from_lem own (omega (arith, header.all)) l.0;
      side_field = coded_value side_code sides (byte own 41) side.Offer l.1;
      insert_field = coded_value level_number levels (byte own 42) level.Fifth k.1;
      delete_field = coded_value level_number levels (byte own 43) level.Fifth h.1;
      contracts_field = refl;
      price_field = refl;
    }

imbalance_from : (subscription : ℕ) (own : List ℕ) → MessageHeader 60 105 subscription (be32 own 4) own → good_imbalance own ≡ true → LaidImbalance subscription own (imbalance_fields own)
imbalance_from subscription own header e =
    let h = and_parts (named own && is_some (auction_at own 41)) (leb (be16 own 42) 2400) e in
    let k = and_parts (named own) (is_some (auction_at own 41)) h.0 in
    record {
      header = header;
      named = named_from_lem own (omega (arith, header.all)) k.0;
      auction_field = coded_value auction_code auctions (byte own 41) auction.Closing k.1;
      time_field = refl;
      contracts_field = refl;
      price_field = refl;
      total_field = refl;
      market_field = refl;
      time_good = leb-true (be16 own 42) 2400 h.1;
    }

form_from : (own : List ℕ) → 40 ≤ length own → good_form own (event_code (byte own 42) (byte own 43)) ≡ true → LaidForm own (form_of own (event_code (byte own 42) (byte own 43)))
form_from own long e = by (event_code (byte own 42) (byte own 43)) refl e
  where
    by : (o : Option EventCode) → event_code (byte own 42) (byte own 43) ≡ o → good_form own o ≡ true → LaidForm own (form_of own o)
    by (Some (Series code)) f g = let i = event_is (byte own 42) (byte own 43) (Series code) f in (named_from_lem own long g, i.0, i.1)
    by (Some (Underlying code)) f g = event_is (byte own 42) (byte own 43) (Underlying code) f
    by (Some Reset) f g = event_is (byte own 42) (byte own 43) Reset f
    by None f g = let z : ◌≡◌ {A = ℕ} 0 1 = cc in absurd (omega arith)

event_from : (subscription : ℕ) (own : List ℕ) → MessageHeader 44 118 subscription (be32 own 4) own → good_event own ≡ true → LaidEvent subscription own (event_fields own)
event_from subscription own header e = record { header = header; codes = form_from own (omega (arith, header.all)) e }

pub read_laid : (subscription : ℕ) (bytes : List ℕ) (c : Content) → message subscription bytes ≡ Some c → Begins subscription bytes c
unfolding message
read_laid subscription bytes c e = by_type (eqb (byte bytes 3) subscription) (eqb (byte bytes 2) 113) (eqb (byte bytes 2) 105) (eqb (byte bytes 2) 118) refl refl refl refl e
  where
    begins : (len : ℕ) (d : Content) (good : Bool) → (good ≡ true → LaidMessage subscription (take len bytes) d) → when good d ≡ Some c → Begins subscription bytes c
    begins len d true laid f = let same : d ≡ c = cc in record { own = take len bytes; rest = drop len bytes; joined = sym (take-append-drop len bytes); laid = subst (LaidMessage subscription (take len bytes)) same (laid refl) }
    begins len d false laid f = let z : ◌≡◌ {A = ℕ} 0 1 = cc in absurd (omega arith)

    -- the header says this length, and it is all there
    whole : (len type : ℕ) (read : List ℕ → Option Content) → 3 < len → byte bytes 2 ≡ type → byte bytes 3 ≡ subscription → (MessageHeader len type subscription (be32 (take len bytes) 4) (take len bytes) → read (take len bytes) ≡ Some c → Begins subscription bytes c) → cut len bytes read ≡ Some c → Begins subscription bytes c
    whole len type read big kind sub then e = by (eqb (be16 bytes 0) len && leb len (length bytes)) refl e
      where
        by : (b : Bool) → (eqb (be16 bytes 0) len && leb len (length bytes)) ≡ b → cond b (read (take len bytes)) None ≡ Some c → Begins subscription bytes c
        by true t e = then (header_from len type subscription bytes big t kind sub) e
        by false t e = let z : ◌≡◌ {A = ℕ} 0 1 = cc in absurd (omega arith)

    by_type : (s q i v : Bool) → eqb (byte bytes 3) subscription ≡ s → eqb (byte bytes 2) 113 ≡ q → eqb (byte bytes 2) 105 ≡ i → eqb (byte bytes 2) 118 ≡ v → cond s (cond q (cut 52 bytes quote_in) (cond i (cut 60 bytes imbalance_in) (cond v (cut 44 bytes event_in) None))) None ≡ Some c → Begins subscription bytes c
    by_type true true i v s t g h e = whole 52 113 quote_in (omega arith) (eqb-true _ _ t) (eqb-true _ _ s) (λ header. begins 52 (quote (quote_fields (take 52 bytes))) (good_quote (take 52 bytes)) (quote_from subscription (take 52 bytes) header)) e
    by_type true false true v s g t h e = whole 60 105 imbalance_in (omega arith) (eqb-true _ _ t) (eqb-true _ _ s) (λ header. begins 60 (imbalance (imbalance_fields (take 60 bytes))) (good_imbalance (take 60 bytes)) (imbalance_from subscription (take 60 bytes) header)) e
    by_type true false false true s g h t e = whole 44 118 event_in (omega arith) (eqb-true _ _ t) (eqb-true _ _ s) (λ header. begins 44 (event (event_fields (take 44 bytes))) (good_event (take 44 bytes)) (event_from subscription (take 44 bytes) header)) e
    by_type true false false false s g h t e = let z : ◌≡◌ {A = ℕ} 0 1 = cc in absurd (omega arith)
    by_type false q i v s g h t e = let z : ◌≡◌ {A = ℕ} 0 1 = cc in absurd (omega arith)
