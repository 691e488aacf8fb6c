-- Bytes that are laid out as a message are read as that message.
use Rattle.std.proofs.Common.{◌≡◌, ℕ, ◌<◌, ◌≤◌, Bool, true, List, ◌++◌, length, take, is_some, Some, Option, unwrap_or, ap, ◌∙◌, arith, length-append}
use Rattle.std.proofs.lemmas.List.{take_at, get_or_append_left}
use Rattle.std.proofs.lemmas.Bool.{le-leb, and_from}
use Rattle.codes.specs.Codes.{coded, sides, side_code, levels, level_number, auctions, auction_code, event_code, event_byte, reset_byte}
use Rattle.messages.specs.Content.{Content, quote, imbalance, event}
use Rattle.messages.specs.Layout.{Number, MessageHeader, Named, LaidQuote, LaidImbalance, LaidForm, LaidEvent, LaidMessage}
use Rattle.messages.specs.Symbols.{well_formed}
use Rattle.messages.specs.Verdict.{message, cut, when, in_range, named, good_form, form_of, quote_in, imbalance_in, event_in}
use Rattle.messages.specs.Wire.{byte, be16, part}
use Rattle.codes.specs.declared.quote.Side.{Side}
use Rattle.codes.specs.declared.quote.Side.TheVariants as side
use Rattle.codes.specs.declared.quote.Level.{Level}
use Rattle.codes.specs.declared.quote.Level.TheVariants as level
use Rattle.codes.specs.declared.auction.Auction.{Auction}
use Rattle.codes.specs.declared.auction.Auction.TheVariants as auction
use Rattle.codes.specs.declared.event.EventCode.{EventCode}
use Rattle.codes.specs.declared.event.EventCode.TheVariants as code
use Rattle.messages.specs.declared.fields.QuoteFields.{QuoteFields}
use Rattle.messages.specs.declared.fields.ImbalanceFields.{ImbalanceFields}
use Rattle.messages.specs.declared.fields.EventFields.{EventFields}
use Rattle.messages.specs.declared.fields.EventForm.{EventForm}
use Rattle.messages.specs.declared.fields.EventForm.TheVariants.{Numbered, Underlying, Reset}
use Rattle.codes.proofs.Cases.{side_back, level_back, auction_back, event_back}
use Rattle.messages.proofs.Symbols.{symbol_passes}
use Rattle.messages.proofs.Verdicts.{message_quote, message_imbalance, message_event, cut_whole}

pub number_passes : (n : ℕ) → Number n → in_range n ≡ true
number_passes n h = and_from _ _ (le-leb 1 n h.low) (le-leb n 4294967294 h.high)

named_passes : (number : ℕ) (symbol own : List ℕ) → Named number symbol own → named own ≡ true
named_passes number symbol own h =
    and_from _ _ (ap in_range h.number_field ∙ number_passes number h.number_good) (ap well_formed h.symbol_field ∙ symbol_passes symbol h.symbol_good)

-- a field that holds a case's code
module _ {E : Type 0} (code : E → ℕ) (cases : List E) (at : ℕ) (e : E) (back : coded code cases (code e) ≡ Some e) (field : at ≡ code e) where
  read_code : coded code cases at ≡ Some e
  read_code = ap (coded code cases) field ∙ back

  code_passes : is_some (coded code cases at) ≡ true
  code_passes = ap is_some read_code

  code_value : (d : E) → unwrap_or (coded code cases at) d ≡ e
  code_value d = ap (λ o. unwrap_or o d) read_code

when_passes : (b : Bool) (c d : Content) → b ≡ true → c ≡ d → when b c ≡ Some d
when_passes b c d e f = ap (λ b. when b c) e ∙ ap Some f

abbrev quote_of : (stamp number : ℕ) (symbol : List ℕ) (side : Side) (insert delete : Level) (contracts price : ℕ) → Content
quote_of stamp number symbol side insert delete contracts price = quote record { stamp = stamp; number = number; symbol = symbol; side = side; insert = insert; delete = delete; contracts = contracts; price = price }

same_quote : (t t' n n' : ℕ) (s s' : List ℕ) (d d' : Side) (i i' k k' : Level) (c c' p p' : ℕ) → t ≡ t' → n ≡ n' → s ≡ s' → d ≡ d' → i ≡ i' → k ≡ k' → c ≡ c' → p ≡ p' → quote_of t n s d i k c p ≡ quote_of t' n' s' d' i' k' c' p'
same_quote t t' n n' s s' d d' i i' k k' c c' p p' e1 e2 e3 e4 e5 e6 e7 e8 = cc

quote_passes : (subscription : ℕ) (own : List ℕ) (q : QuoteFields) → LaidQuote subscription own q → quote_in own ≡ Some (quote q)
quote_passes subscription own q h =
    when_passes _ _ _ (and_from _ _ (and_from _ _ (and_from _ _ (named_passes q.number q.symbol own h.named)
    (code_passes side_code sides _ _ (side_back q.side) h.side_field))
    (code_passes level_number levels _ _ (level_back q.insert) h.insert_field))
    (code_passes level_number levels _ _ (level_back q.delete) h.delete_field))
    (same_quote _ q.stamp _ q.number _ q.symbol _ q.side _ q.insert _ q.delete _ q.contracts _ q.price
    h.header.stamp_field h.named.number_field h.named.symbol_field
    (code_value side_code sides (byte own 41) _ (side_back q.side) h.side_field side.Offer)
    (code_value level_number levels (byte own 42) _ (level_back q.insert) h.insert_field level.Fifth)
    (code_value level_number levels (byte own 43) _ (level_back q.delete) h.delete_field level.Fifth)
    h.contracts_field h.price_field)

abbrev imbalance_of : (stamp number : ℕ) (symbol : List ℕ) (auction : Auction) (time contracts price total market : ℕ) → Content
imbalance_of stamp number symbol auction time contracts price total market = imbalance record { stamp = stamp; number = number; symbol = symbol; auction = auction; time = time; contracts = contracts; price = price; total = total; market = market }

same_imbalance : (t t' n n' : ℕ) (s s' : List ℕ) (a a' : Auction) (h h' c c' p p' o o' m m' : ℕ) → t ≡ t' → n ≡ n' → s ≡ s' → a ≡ a' → h ≡ h' → c ≡ c' → p ≡ p' → o ≡ o' → m ≡ m' → imbalance_of t n s a h c p o m ≡ imbalance_of t' n' s' a' h' c' p' o' m'
same_imbalance t t' n n' s s' a a' h h' c c' p p' o o' m m' e1 e2 e3 e4 e5 e6 e7 e8 e9 = cc

imbalance_passes : (subscription : ℕ) (own : List ℕ) (i : ImbalanceFields) → LaidImbalance subscription own i → imbalance_in own ≡ Some (imbalance i)
imbalance_passes subscription own i h =
    when_passes _ _ _ (and_from _ _ (and_from _ _ (named_passes i.number i.symbol own h.named)
    (code_passes auction_code auctions _ _ (auction_back i.auction) h.auction_field))
    (le-leb _ _ (rw h.time_field h.time_good)))
    (same_imbalance _ i.stamp _ i.number _ i.symbol _ i.auction _ i.time _ i.contracts _ i.price _ i.total _ i.market
    h.header.stamp_field h.named.number_field h.named.symbol_field
    (code_value auction_code auctions (byte own 41) _ (auction_back i.auction) h.auction_field auction.Closing)
    h.time_field h.contracts_field h.price_field h.total_field h.market_field)

-- the two codes of an event, and its form
codes_read : (own : List ℕ) (e : EventCode) → byte own 42 ≡ event_byte e → byte own 43 ≡ reset_byte e → event_code (byte own 42) (byte own 43) ≡ Some e
codes_read own e a b = ap (λ x. event_code x (byte own 43)) a ∙ ap (event_code (event_byte e)) b ∙ event_back e

form_passes : (own : List ℕ) (f : EventForm) → LaidForm own f → (good_form own (event_code (byte own 42) (byte own 43)) ≡ true) × (form_of own (event_code (byte own 42) (byte own 43)) ≡ f)
form_passes own (Numbered number symbol c) h =
    let e = codes_read own (code.Series c) h.1 h.2 in
    let n = h.0.number_field in
    let s = h.0.symbol_field in
    (ap (good_form own) e ∙ named_passes number symbol own h.0, ap (form_of own) e ∙ ap (λ n. Numbered n (part own 32 8) c) n ∙ ap (λ s. Numbered number s c) s)
form_passes own (Underlying c) h = let e = codes_read own (code.Underlying c) h.0 h.1 in (ap (good_form own) e, ap (form_of own) e)
form_passes own Reset h = let e = codes_read own code.Reset h.0 h.1 in (ap (good_form own) e, ap (form_of own) e)

abbrev event_of : ℕ → EventForm → Content
event_of stamp form = event record { stamp = stamp; form = form }

event_passes : (subscription : ℕ) (own : List ℕ) (e : EventFields) → LaidEvent subscription own e → event_in own ≡ Some (event e)
event_passes subscription own e h =
    let f = form_passes own e.form h.codes in
    when_passes _ _ _ f.0 (ap (λ t. event_of t (form_of own (event_code (byte own 42) (byte own 43)))) h.header.stamp_field ∙ ap (event_of e.stamp) f.1)

-- the header of a message with bytes after it
record Front (len type subscription : ℕ) (bytes own : List ℕ) : Type 0 where
  enough : len ≤ length bytes
  length_field : be16 bytes 0 ≡ len
  type_field : byte bytes 2 ≡ type
  subscription_field : byte bytes 3 ≡ subscription
  cut_off : take len bytes ≡ own

front : {len type subscription stamp : ℕ} {own : List ℕ} (rest : List ℕ) → 3 < len → MessageHeader len type subscription stamp own → Front len type subscription (own ++ rest) own
front {len} {own = own} rest big h =
    let same : (i : ℕ) → i < 4 → byte (own ++ rest) i ≡ byte own i = λ i small. get_or_append_left own rest 0 i (omega (arith, h.all)) in
    let first = same 0 (omega arith) in
    let second = same 1 (omega arith) in
    record {
      enough = omega (arith, length-append own rest, h.all);
      length_field = omega (arith, h.length_field);
      type_field = same 2 (omega arith) ∙ h.type_field;
      subscription_field = same 3 (omega arith) ∙ h.subscription_field;
      cut_off = take_at own rest len h.all;
    }

cut_front : {len type subscription : ℕ} (bytes own : List ℕ) (read : List ℕ → Option Content) → Front len type subscription bytes own → cut len bytes read ≡ read own
cut_front {len} bytes own read f = cut_whole bytes len read f.length_field f.enough ∙ ap read f.cut_off

pub laid_read : (subscription : ℕ) (own rest : List ℕ) (c : Content) → LaidMessage subscription own c → message subscription (own ++ rest) ≡ Some c
laid_read subscription own rest (quote q) h =
    let f = front rest (omega arith) h.header in
    message_quote subscription (own ++ rest) f.subscription_field f.type_field ∙ cut_front (own ++ rest) own quote_in f ∙ quote_passes subscription own q h
laid_read subscription own rest (imbalance i) h =
    let f = front rest (omega arith) h.header in
    message_imbalance subscription (own ++ rest) f.subscription_field f.type_field ∙ cut_front (own ++ rest) own imbalance_in f ∙ imbalance_passes subscription own i h
laid_read subscription own rest (event e) h =
    let f = front rest (omega arith) h.header in
    message_event subscription (own ++ rest) f.subscription_field f.type_field ∙ cut_front (own ++ rest) own event_in f ∙ event_passes subscription own e h
