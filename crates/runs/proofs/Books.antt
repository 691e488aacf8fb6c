-- A series' slot in a session, and what a delivery does to it.
use Rattle.std.proofs.Common.{◌≡◌, ℕ, Bool, true, false, cond, ◌||◌, List, [], ◌∷◌, map, is_some, Some, None, Option, sym, refl, ap, ◌∙◌}
use Rattle.std.specs.Option.{option_map}
use Rattle.std.specs.Str.{bytes_eq}
use Rattle.std.proofs.lemmas.Iterator.Adapters.{option_map_id}
use Rattle.std.proofs.lemmas.Slice.Eq.{bytes_eq-Decides}
use Rattle.std.proofs.lemmas.Bool.Decides.{not_from_Decides}
use Rattle.messages.specs.Content.{Content}
use Rattle.kinds.specs.Meaning.{Meaning}
use Rattle.runs.specs.Taking.{Numbered, Slot, numbered, fresh, taken}
use Rattle.runs.specs.Watching.{Watched, renewed, offered, offered_if, fed}
use Rattle.messages.specs.Symbols.{among}
use Rattle.runs.specs.Publisher.{also, numbered_in, of_series}
use Rattle.runs.proofs.Series.{after}

-- the slot of a series
abbrev pub slot_in : List Watched → List ℕ → Option Slot
slot_in [] x = None
slot_in (w ∷ ws) x = cond (bytes_eq w.symbol x) (Some w.slot) (slot_in ws x)

abbrev pub symbols : List Watched → List (List ℕ)
symbols ws = map (λ (w : Watched). w.symbol) ws

module _ (K : Meaning) (m : Numbered) (x : List ℕ) where
  offered_head : (w : Watched) (rest rest' : Option Slot) (b1 b2 b3 : Bool) → bytes_eq w.symbol m.symbol ≡ b1 → bytes_eq w.symbol x ≡ b2 → bytes_eq m.symbol x ≡ b3 →
      rest' ≡ option_map (after K (cond b3 (m ∷ []) [])) rest →
      cond b1 (cond b2 (Some (taken K w.slot m)) rest) (cond b2 (Some w.slot) rest') ≡ option_map (after K (cond b3 (m ∷ []) [])) (cond b2 (Some w.slot) rest)
  offered_head w rest rest' true true true e f g h = refl
  offered_head w rest rest' true true false e f g h = absurd (not_from_Decides _ (bytes_eq-Decides m.symbol x) g (sym ((bytes_eq-Decides w.symbol m.symbol).0 e) ∙ (bytes_eq-Decides w.symbol x).0 f))
  offered_head w rest rest' true false true e f g h = absurd (not_from_Decides _ (bytes_eq-Decides w.symbol x) f ((bytes_eq-Decides w.symbol m.symbol).0 e ∙ (bytes_eq-Decides m.symbol x).0 g))
  offered_head w rest rest' true false false e f g h = sym (option_map_id rest)
  offered_head w rest rest' false true true e f g h = absurd (not_from_Decides _ (bytes_eq-Decides w.symbol m.symbol) e ((bytes_eq-Decides w.symbol x).0 f ∙ sym ((bytes_eq-Decides m.symbol x).0 g)))
  offered_head w rest rest' false true false e f g h = refl
  offered_head w rest rest' false false b3 e f g h = h

  push_cond : (b1 : Bool) (w : Watched) (ws vs : List Watched) → slot_in (cond b1 (record { symbol = w.symbol; slot = taken K w.slot m } ∷ ws) (w ∷ vs)) x ≡ cond b1 (cond (bytes_eq w.symbol x) (Some (taken K w.slot m)) (slot_in ws x)) (cond (bytes_eq w.symbol x) (Some w.slot) (slot_in vs x))
  push_cond true w ws vs = refl
  push_cond false w ws vs = refl

  slot_offered : (ws : List Watched) → slot_in (offered K m ws) x ≡ option_map (after K (of_series x (m ∷ []))) (slot_in ws x)
  slot_offered [] = refl
  slot_offered (w ∷ ws) =
      push_cond (bytes_eq w.symbol m.symbol) w ws (offered K m ws)
      ∙ offered_head w (slot_in ws x) (slot_in (offered K m ws) x) (bytes_eq w.symbol m.symbol) (bytes_eq w.symbol x) (bytes_eq m.symbol x) refl refl refl (slot_offered ws)

  mapped_more : (b : Bool) (ms : List Numbered) (o : Option Slot) → option_map (after K ms) (option_map (after K (cond b (m ∷ []) [])) o) ≡ option_map (after K (cond b (m ∷ ms) ms)) o
  mapped_more true ms (Some s) = refl
  mapped_more false ms (Some s) = refl
  mapped_more b ms None = refl

  symbols_cond : (b : Bool) (w : Watched) (ws vs : List Watched) → symbols ws ≡ symbols vs → symbols (cond b (record { symbol = w.symbol; slot = taken K w.slot m } ∷ ws) (w ∷ vs)) ≡ w.symbol ∷ symbols ws
  symbols_cond true w ws vs e = refl
  symbols_cond false w ws vs e = ap (λ l. w.symbol ∷ l) (sym e)

  symbols_offered : (ws : List Watched) → symbols (offered K m ws) ≡ symbols ws
  symbols_offered [] = refl
  symbols_offered (w ∷ ws) = symbols_cond (bytes_eq w.symbol m.symbol) w ws (offered K m ws) (sym (symbols_offered ws))

module _ (K : Meaning) where
  -- a series' slot after the messages of a packet: only its own matter
  pub slot_fed : (x : List ℕ) (cs : List Content) (ws : List Watched) → slot_in (fed K ws cs) x ≡ option_map (after K (of_series x (numbered_in cs))) (slot_in ws x)
  slot_fed x [] ws = sym (option_map_id (slot_in ws x))
  slot_fed x (c ∷ cs) ws = by (numbered c) (λ vs. slot_fed x cs vs)
    where
      by : (o : Option Numbered) → ((vs : List Watched) → slot_in (fed K vs cs) x ≡ option_map (after K (of_series x (numbered_in cs))) (slot_in vs x)) → slot_in (fed K (offered_if K o ws) cs) x ≡ option_map (after K (of_series x (also o (numbered_in cs)))) (slot_in ws x)
      by None rest = rest ws
      by (Some m) rest = rest (offered K m ws) ∙ ap (option_map (after K (of_series x (numbered_in cs)))) (slot_offered K m x ws) ∙ mapped_more K m x (bytes_eq m.symbol x) (of_series x (numbered_in cs)) (slot_in ws x)

  pub symbols_fed : (cs : List Content) (ws : List Watched) → symbols (fed K ws cs) ≡ symbols ws
  symbols_fed [] ws = refl
  symbols_fed (c ∷ cs) ws = by (numbered c) (λ vs. symbols_fed cs vs)
    where
      by : (o : Option Numbered) → ((vs : List Watched) → symbols (fed K vs cs) ≡ symbols vs) → symbols (fed K (offered_if K o ws) cs) ≡ symbols ws
      by None rest = rest ws
      by (Some m) rest = rest (offered K m ws) ∙ symbols_offered K m [] ws

  pub slot_renewed : (x : List ℕ) (ws : List Watched) → slot_in (map (renewed K) ws) x ≡ option_map (λ s. fresh K) (slot_in ws x)
  slot_renewed x [] = refl
  slot_renewed x (w ∷ ws) = by (bytes_eq w.symbol x) (slot_renewed x ws)
    where
      by : (b : Bool) → slot_in (map (renewed K) ws) x ≡ option_map (λ s. fresh K) (slot_in ws x) → cond b (Some (fresh K)) (slot_in (map (renewed K) ws) x) ≡ option_map (λ s. fresh K) (cond b (Some w.slot) (slot_in ws x))
      by true rest = refl
      by false rest = rest

  pub symbols_renewed : (ws : List Watched) → symbols (map (renewed K) ws) ≡ symbols ws
  symbols_renewed [] = refl
  symbols_renewed (w ∷ ws) = ap (λ l. w.symbol ∷ l) (symbols_renewed ws)

-- a watched series has a slot
pub slot_watched : (x : List ℕ) (ws : List Watched) → is_some (slot_in ws x) ≡ among x (symbols ws)
slot_watched x [] = refl
slot_watched x (w ∷ ws) = by (bytes_eq w.symbol x) (slot_watched x ws)
  where
    by : (b : Bool) → is_some (slot_in ws x) ≡ among x (symbols ws) → is_some (cond b (Some w.slot) (slot_in ws x)) ≡ (b || among x (symbols ws))
    by true rest = refl
    by false rest = rest
