-- What is encoded is laid out as the content that it was made from.
use Rattle.std.proofs.Common.{◌≡◌, ℕ, ◌^◌, ◌<◌, true, leb, List, [], ◌∷◌, ◌++◌, sym, refl, subst}
use Rattle.std.proofs.lemmas.Bool.{and_parts, and_from, leb-true, le-leb}
use Rattle.codes.specs.declared.event.SeriesEvent.{SeriesEvent}
use Rattle.messages.specs.Content.{Content, quote, imbalance, event}
use Rattle.messages.specs.Layout.{Named, LaidQuote, LaidImbalance, LaidForm, LaidEvent, LaidMessage}
use Rattle.messages.specs.Symbols.{well_formed}
use Rattle.messages.specs.Verdict.{in_range}
use Rattle.messages.specs.declared.fields.QuoteFields.{QuoteFields}
use Rattle.messages.specs.declared.fields.ImbalanceFields.{ImbalanceFields}
use Rattle.messages.specs.declared.fields.EventForm.{EventForm}
use Rattle.messages.specs.declared.fields.EventForm.TheVariants.{Numbered, Underlying, Reset}
use Rattle.messages.proofs.Layouts.{number_passes}
use Rattle.messages.proofs.Readings.{number_from}
use Rattle.messages.proofs.Symbols.{symbol_passes, symbol_from}
use Rattle.messages.specs.Verdict.{nameable}
use Rattle.encode.specs.Encode.{header_bytes, named_bytes, quote_bytes, imbalance_bytes, event_bytes, encoded, writable_form, writable}
use Rattle.encode.specs.Typed.{TypedForm}
use Rattle.encode.specs.Typed.{TypedQuote, TypedImbalance, Typed}
use Rattle.encode.proofs.Numbers.{back16, back32, eight}

-- fields that are laid out can be written
named_writable : (number : ℕ) (symbol bytes : List ℕ) → Named number symbol bytes → nameable number symbol ≡ true
named_writable number symbol bytes h = and_from _ _ (number_passes number h.number_good) (symbol_passes symbol h.symbol_good)

form_writable : (bytes : List ℕ) (f : EventForm) → LaidForm bytes f → writable_form f ≡ true
form_writable bytes (Numbered number symbol code) h = named_writable number symbol bytes h.0
form_writable bytes (Underlying code) h = refl
form_writable bytes Reset h = refl

pub laid_writable : (subscription : ℕ) (bytes : List ℕ) (c : Content) → LaidMessage subscription bytes c → writable c ≡ true
unfolding writable
laid_writable subscription bytes (quote q) h = named_writable q.number q.symbol bytes h.named
laid_writable subscription bytes (imbalance i) h = and_from _ _ (named_writable i.number i.symbol bytes h.named) (le-leb _ _ h.time_good)
laid_writable subscription bytes (event e) h = form_writable bytes e.form h.codes

-- number and symbol behind a header
module _ (len type subscription stamp number : ℕ) (s0 s1 s2 s3 s4 s5 s6 s7 : ℕ) (rest : List ℕ) where
  named_laid : number < 2 ^ 32 → nameable number (s0 ∷ s1 ∷ s2 ∷ s3 ∷ s4 ∷ s5 ∷ s6 ∷ s7 ∷ []) ≡ true → Named number (s0 ∷ s1 ∷ s2 ∷ s3 ∷ s4 ∷ s5 ∷ s6 ∷ s7 ∷ []) (header_bytes len type subscription stamp ++ named_bytes number (s0 ∷ s1 ∷ s2 ∷ s3 ∷ s4 ∷ s5 ∷ s6 ∷ s7 ∷ []) ++ rest)
  named_laid h w =
      let p = and_parts (in_range number) (well_formed (s0 ∷ s1 ∷ s2 ∷ s3 ∷ s4 ∷ s5 ∷ s6 ∷ s7 ∷ [])) w in
      record { number_field = back32 number h; symbol_field = refl; number_good = number_from number p.0; symbol_good = symbol_from _ refl p.1 }

abbrev quote_with : QuoteFields → List ℕ → QuoteFields
quote_with q s = record { stamp = q.stamp; number = q.number; symbol = s; side = q.side; insert = q.insert; delete = q.delete; contracts = q.contracts; price = q.price }

quote_laid : (subscription : ℕ) (q : QuoteFields) → TypedQuote q → nameable q.number q.symbol ≡ true → LaidQuote subscription (quote_bytes subscription q) q
quote_laid subscription q t = subst (λ s. nameable q.number s ≡ true → LaidQuote subscription (quote_bytes subscription (quote_with q s)) (quote_with q s)) (sym (eight q.symbol t.symbol)) (spelled _ _ _ _ _ _ _ _)
  where
    spelled : (s0 s1 s2 s3 s4 s5 s6 s7 : ℕ) → let s : List ℕ = s0 ∷ s1 ∷ s2 ∷ s3 ∷ s4 ∷ s5 ∷ s6 ∷ s7 ∷ [] in nameable q.number s ≡ true → LaidQuote subscription (quote_bytes subscription (quote_with q s)) (quote_with q s)
    spelled s0 s1 s2 s3 s4 s5 s6 s7 w = record {
      header = record { all = refl; length_field = refl; type_field = refl; subscription_field = refl; stamp_field = back32 q.stamp t.stamp };
      named = named_laid 52 113 subscription q.stamp q.number s0 s1 s2 s3 s4 s5 s6 s7 _ t.number w;
      side_field = refl;
      insert_field = refl;
      delete_field = refl;
      contracts_field = back32 q.contracts t.contracts;
      price_field = back32 q.price t.price;
    }

abbrev imbalance_with : ImbalanceFields → List ℕ → ImbalanceFields
imbalance_with i s = record { stamp = i.stamp; number = i.number; symbol = s; auction = i.auction; time = i.time; contracts = i.contracts; price = i.price; total = i.total; market = i.market }

imbalance_laid : (subscription : ℕ) (i : ImbalanceFields) → TypedImbalance i → leb i.time 2400 ≡ true → nameable i.number i.symbol ≡ true → LaidImbalance subscription (imbalance_bytes subscription i) i
imbalance_laid subscription i t h = subst (λ s. nameable i.number s ≡ true → LaidImbalance subscription (imbalance_bytes subscription (imbalance_with i s)) (imbalance_with i s)) (sym (eight i.symbol t.symbol)) (spelled _ _ _ _ _ _ _ _)
  where
    spelled : (s0 s1 s2 s3 s4 s5 s6 s7 : ℕ) → let s : List ℕ = s0 ∷ s1 ∷ s2 ∷ s3 ∷ s4 ∷ s5 ∷ s6 ∷ s7 ∷ [] in nameable i.number s ≡ true → LaidImbalance subscription (imbalance_bytes subscription (imbalance_with i s)) (imbalance_with i s)
    spelled s0 s1 s2 s3 s4 s5 s6 s7 w = record {
      header = record { all = refl; length_field = refl; type_field = refl; subscription_field = refl; stamp_field = back32 i.stamp t.stamp };
      named = named_laid 60 105 subscription i.stamp i.number s0 s1 s2 s3 s4 s5 s6 s7 _ t.number w;
      auction_field = refl;
      time_field = back16 i.time t.time;
      contracts_field = back32 i.contracts t.contracts;
      price_field = back32 i.price t.price;
      total_field = back32 i.total t.total;
      market_field = back32 i.market t.market;
      time_good = leb-true i.time 2400 h;
    }

-- the header of an event, whatever its form
module _ (subscription stamp : ℕ) (h : stamp < 2 ^ 32) where
  series_laid : (number : ℕ) (symbol : List ℕ) (code : SeriesEvent) → TypedForm (Numbered number symbol code) → nameable number symbol ≡ true → LaidEvent subscription (event_bytes subscription record { stamp = stamp; form = Numbered number symbol code }) record { stamp = stamp; form = Numbered number symbol code }
  series_laid number symbol code t = subst (λ s. nameable number s ≡ true → LaidEvent subscription (event_bytes subscription record { stamp = stamp; form = Numbered number s code }) record { stamp = stamp; form = Numbered number s code }) (sym (eight symbol t.1)) (spelled _ _ _ _ _ _ _ _)
    where
      spelled : (s0 s1 s2 s3 s4 s5 s6 s7 : ℕ) → let s : List ℕ = s0 ∷ s1 ∷ s2 ∷ s3 ∷ s4 ∷ s5 ∷ s6 ∷ s7 ∷ [] in nameable number s ≡ true → LaidEvent subscription (event_bytes subscription record { stamp = stamp; form = Numbered number s code }) record { stamp = stamp; form = Numbered number s code }
      spelled s0 s1 s2 s3 s4 s5 s6 s7 w = record {
        header = record { all = refl; length_field = refl; type_field = refl; subscription_field = refl; stamp_field = back32 stamp h };
        codes = (named_laid 44 118 subscription stamp number s0 s1 s2 s3 s4 s5 s6 s7 _ t.0 w, refl, refl);
      }

  form_laid : (f : EventForm) → TypedForm f → writable_form f ≡ true → LaidEvent subscription (event_bytes subscription record { stamp = stamp; form = f }) record { stamp = stamp; form = f }
  form_laid (Numbered number symbol code) t w = series_laid number symbol code t w
  form_laid (Underlying code) t w = record { header = record { all = refl; length_field = refl; type_field = refl; subscription_field = refl; stamp_field = back32 stamp h }; codes = (refl, refl) }
  form_laid Reset t w = record { header = record { all = refl; length_field = refl; type_field = refl; subscription_field = refl; stamp_field = back32 stamp h }; codes = (refl, refl) }

pub encoded_laid : (subscription : ℕ) (c : Content) → Typed c → writable c ≡ true → LaidMessage subscription (encoded subscription c) c
unfolding writable encoded
encoded_laid subscription (quote q) t w = quote_laid subscription q t w
encoded_laid subscription (imbalance i) t w = let p = and_parts (nameable i.number i.symbol) (leb i.time 2400) w in imbalance_laid subscription i t p.1 p.0
encoded_laid subscription (event e) t w = form_laid subscription e.stamp t.stamp e.form t.form w
