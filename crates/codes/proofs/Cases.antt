-- Codes are read back as the cases that they stand for.
use Rattle.std.proofs.Common.{◌≡◌, ℕ, Bool, true, false, cond, ◌&&◌, eqb, List, [], ◌∷◌, ◌++◌, map, is_some, Some, None, Option, unwrap_or, sym, refl, ap, ◌∙◌, arith}
use Rattle.std.proofs.lemmas.Bool.{cond-true, cond-false, eqb-true, ne_eqb, and_left, and_parts}
use Rattle.std.specs.List.{find}
use Rattle.codes.specs.Codes.{coded, sides, side_code, levels, level_number, auctions, auction_code, series_events, series_code, underlying_events, underlying_code, events, event_code, event_byte, reset_byte}
use Rattle.codes.specs.declared.quote.Side.{Side}
use Rattle.codes.specs.declared.quote.Side.TheVariants as side
use Rattle.codes.specs.declared.quote.Level.{Level}
use Rattle.codes.specs.declared.quote.Level.TheVariants as level
use Rattle.codes.specs.declared.auction.Auction.{Auction}
use Rattle.codes.specs.declared.auction.Auction.TheVariants as auction
use Rattle.codes.specs.declared.event.SeriesEvent.{SeriesEvent}
use Rattle.codes.specs.declared.event.SeriesEvent.TheVariants as series
use Rattle.codes.specs.declared.event.UnderlyingEvent.{UnderlyingEvent}
use Rattle.codes.specs.declared.event.UnderlyingEvent.TheVariants as underlying
use Rattle.codes.specs.declared.event.EventCode.{EventCode}
use Rattle.codes.specs.declared.event.EventCode.TheVariants.{Series, Underlying, Reset}

-- what `find` finds passes the test
pub find_passes : {E : Type 0} (test : E → Bool) (es : List E) (e : E) → find test es ≡ Some e → test e ≡ true
find_passes test [] e h = let z : ◌≡◌ {A = ℕ} 0 1 = cc in absurd (omega arith)
find_passes test (d ∷ ds) e h = by (test d) refl h (λ k. find_passes test ds e k)
  where
    by : (b : Bool) → test d ≡ b → cond b (Some d) (find test ds) ≡ Some e → (find test ds ≡ Some e → test e ≡ true) → test e ≡ true
    by true t f later = let same : d ≡ e = cc in ap test (sym same) ∙ t
    by false t f later = later f

pub coded_is : {E : Type 0} (code : E → ℕ) (es : List E) (byte : ℕ) (e : E) → coded code es byte ≡ Some e → byte ≡ code e
coded_is code es byte e h = eqb-true byte (code e) (find_passes (λ e. eqb byte (code e)) es e h)

-- where a case is found, the byte is its code, whatever stands in for none
pub coded_value : {E : Type 0} (code : E → ℕ) (es : List E) (byte : ℕ) (d : E) → is_some (coded code es byte) ≡ true → byte ≡ code (unwrap_or (coded code es byte) d)
coded_value {E} code es byte d h = by (coded code es byte) refl h
  where
    by : (o : Option E) → coded code es byte ≡ o → is_some o ≡ true → byte ≡ code (unwrap_or o d)
    by (Some e) f h = coded_is code es byte e f
    by None f h = let z : ◌≡◌ {A = ℕ} 0 1 = cc in absurd (omega arith)

-- a case's own code is read as that case
pub side_back : (s : Side) → coded side_code sides (side_code s) ≡ Some s
side_back side.Bid = refl
side_back side.Offer = refl

pub level_back : (l : Level) → coded level_number levels (level_number l) ≡ Some l
level_back level.First = refl
level_back level.Second = refl
level_back level.Third = refl
level_back level.Fourth = refl
level_back level.Fifth = refl

pub auction_back : (a : Auction) → coded auction_code auctions (auction_code a) ≡ Some a
auction_back auction.Open = refl
auction_back auction.Market = refl
auction_back auction.Halt = refl
auction_back auction.Closing = refl

pub event_back : (e : EventCode) → event_code (event_byte e) (reset_byte e) ≡ Some e
unfolding event_code
event_back (Series series.ClearOffer) = refl
event_back (Series series.ClearBid) = refl
event_back (Series series.ClearSeries) = refl
event_back (Series series.LightUp) = refl
event_back (Series series.DarkOpen) = refl
event_back (Series series.Open) = refl
event_back (Series series.Halt) = refl
event_back (Series series.DarkUnhalt) = refl
event_back (Series series.Unhalt) = refl
event_back (Series series.Close) = refl
event_back (Underlying underlying.Open) = refl
event_back (Underlying underlying.Halt) = refl
event_back (Underlying underlying.Unhalt) = refl
event_back (Underlying underlying.Close) = refl
event_back Reset = refl

pub event_is : (event reset : ℕ) (e : EventCode) → event_code event reset ≡ Some e → (event ≡ event_byte e) × (reset ≡ reset_byte e)
unfolding event_code
event_is event reset e h =
    let p = and_parts (eqb reset (reset_byte e)) (eqb event (event_byte e)) (find_passes (λ e. eqb reset (reset_byte e) && eqb event (event_byte e)) events e h) in
    (eqb-true event (event_byte e) p.1, eqb-true reset (reset_byte e) p.0)

-- a search through cases of another enum, and then through the rest
module _ {A E : Type 0} (test : E → Bool) (f : A → E) (rest : List E) where
  find-map : (own : A → Bool) → ((a : A) → test (f a) ≡ own a) → (xs : List A) → (a : A) → find own xs ≡ Some a → find test (map f xs ++ rest) ≡ Some (f a)
  find-map own same [] a h = let z : ◌≡◌ {A = ℕ} 0 1 = cc in absurd (omega arith)
  find-map own same (b ∷ bs) a h = by (own b) refl h (λ k. find-map own same bs a k)
    where
      by : (t : Bool) → own b ≡ t → cond t (Some b) (find own bs) ≡ Some a → (find own bs ≡ Some a → find test (map f bs ++ rest) ≡ Some (f a)) → find test (map f (b ∷ bs) ++ rest) ≡ Some (f a)
      by true t g later = let e : b ≡ a = cc in cond-true _ _ _ (same b ∙ t) ∙ ap (λ x. Some (f x)) e
      by false t g later = cond-false _ _ _ (same b ∙ t) ∙ later g

  find_past : (own : A → Bool) → ((a : A) → test (f a) ≡ own a) → (xs : List A) → find own xs ≡ None → find test (map f xs ++ rest) ≡ find test rest
  find_past own same [] h = refl
  find_past own same (b ∷ bs) h = by (own b) refl h (λ k. find_past own same bs k)
    where
      by : (t : Bool) → own b ≡ t → cond t (Some b) (find own bs) ≡ None → (find own bs ≡ None → find test (map f bs ++ rest) ≡ find test rest) → find test (map f (b ∷ bs) ++ rest) ≡ find test rest
      by true t g later = let z : ◌≡◌ {A = ℕ} 0 1 = cc in absurd (omega arith)
      by false t g later = cond-false _ _ _ (same b ∙ t) ∙ later g

none_pass : {A : Type 0} (xs : List A) → find (λ a. false) xs ≡ None
none_pass [] = refl
none_pass (a ∷ xs) = none_pass xs

-- which event a pair of codes is
abbrev is : ℕ → ℕ → EventCode → Bool
is event reset e = eqb reset (reset_byte e) && eqb event (event_byte e)

abbrev last : List EventCode
last = Reset ∷ []

abbrev later : List EventCode
later = map Underlying underlying_events ++ last

module _ (event : ℕ) where
  pub event_series : (code : SeriesEvent) → coded series_code series_events event ≡ Some code → event_code event 67 ≡ Some (Series code)
  unfolding event_code
  event_series code h = find-map (is event 67) Series later (λ a. eqb event (series_code a)) (λ a. refl) series_events code h

  past_series : coded series_code series_events event ≡ None → event_code event 67 ≡ find (is event 67) later
  unfolding event_code
  past_series h = find_past (is event 67) Series later (λ a. eqb event (series_code a)) (λ a. refl) series_events h

  pub event_underlying : (code : UnderlyingEvent) → coded series_code series_events event ≡ None → coded underlying_code underlying_events event ≡ Some code → event_code event 67 ≡ Some (Underlying code)
  event_underlying code h k = past_series h ∙ find-map (is event 67) Underlying last (λ a. eqb event (underlying_code a)) (λ a. refl) underlying_events code k

  pub event_none : coded series_code series_events event ≡ None → coded underlying_code underlying_events event ≡ None → event_code event 67 ≡ None
  event_none h k = past_series h ∙ find_past (is event 67) Underlying last (λ a. eqb event (underlying_code a)) (λ a. refl) underlying_events k

  pub event_other : (reset : ℕ) → (reset ≡ 67 → ⊥) → event_code event reset ≡ cond (eqb reset 82 && eqb event 73) (Some Reset) None
  unfolding event_code
  event_other reset h =
      find_past (is event reset) Series later (λ a. false) (λ a. and_left _ _ (ne_eqb _ _ h)) series_events (none_pass series_events)
      ∙ find_past (is event reset) Underlying last (λ a. false) (λ a. and_left _ _ (ne_eqb _ _ h)) underlying_events (none_pass underlying_events)
