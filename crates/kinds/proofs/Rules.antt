-- The three meanings keep their rules.
use Rattle.std.proofs.Common.{◌≡◌, ℕ, Bool, false, eqb, List, ◌++◌, length, replicate, refl, ap, ◌∙◌, take-append-drop}
use Rattle.std.proofs.lemmas.List.{take_at, drop_at, replicate-append-replicate}
use Rattle.messages.specs.declared.fields.EventForm.{EventForm}
use Rattle.messages.specs.declared.fields.QuoteFields.{QuoteFields}
use Rattle.kinds.specs.Levels.{new_level, numbers, ten}
use Rattle.kinds.specs.Books.{code_of, cleared, book_meaning}
use Rattle.kinds.specs.Depth.{every, side_after}
use Rattle.kinds.specs.Top.{of_top, best_after}
use Rattle.kinds.specs.Imbalance.{imbalance_meaning}
use Rattle.kinds.specs.Rules.{EventRules, NoImbalances, LevelRules, DepthRules, TopRules, ImbalanceRules}
use Rattle.kinds.proofs.Changes.{laws}
use Rattle.kinds.proofs.Shown.{on_bid, on_offer, levels_numbers}

module _ (w : ℕ) (f : EventForm) where
  pub cleared_offer : code_of f ≡ 65 → (bids offers : List ℕ) → length bids ≡ w → cleared w f (bids ++ offers) ≡ bids ++ replicate w 0
  cleared_offer e bids offers fits = rw (e) (ap (λ kept. kept ++ replicate w 0) (take_at bids offers w fits))

  pub cleared_bid : code_of f ≡ 66 → (bids offers : List ℕ) → length bids ≡ w → cleared w f (bids ++ offers) ≡ replicate w 0 ++ offers
  cleared_bid e bids offers fits = rw (e) (ap (λ kept. replicate w 0 ++ kept) (drop_at bids offers w fits))

  pub cleared_both : code_of f ≡ 67 → (r : List ℕ) → cleared w f r ≡ replicate w 0 ++ replicate w 0
  cleared_both e r = rw (e) refl

  pub cleared_none : eqb (code_of f) 65 ≡ false → eqb (code_of f) 66 ≡ false → eqb (code_of f) 67 ≡ false → (r : List ℕ) → cleared w f r ≡ r
  cleared_none a b c r = rw (a, b, c) (take-append-drop w r)

-- every kind of book
module _ (w : ℕ) (takes : QuoteFields → Bool) (after : QuoteFields → List ℕ → List ℕ) where
  event_rules : EventRules (book_meaning w takes after) w
  event_rules =
      record {
        belong = λ e. refl;
        settle = λ e. refl;
        offer = λ e. cleared_offer w e.form;
        bid = λ e. cleared_bid w e.form;
        both = λ e code r. cleared_both w e.form code r ∙ replicate-append-replicate w w 0;
        others = λ e. cleared_none w e.form;
      }

  no_imbalances : NoImbalances (book_meaning w takes after)
  no_imbalances = record { belong = λ i. refl; settle = λ i. refl; step = λ i r. refl }

pub depth_rules : DepthRules (book_meaning 10 every side_after)
depth_rules =
    record {
      empty = refl;
      belong = λ q. refl;
      settle = λ q. refl;
      bid = λ q s bids offers five. rw (s, on_bid 10 (numbers bids) (numbers offers) (ten bids five), levels_numbers bids) refl;
      offer = λ q s bids offers five. rw (s, on_offer 10 (numbers bids) (numbers offers) (ten bids five), levels_numbers offers) refl;
      imbalances = no_imbalances 10 every side_after;
      events = event_rules 10 every side_after;
    }

pub level_rules : LevelRules
level_rules = record { written = λ a b c d e. refl; changed = λ q side five. laws q.delete q.insert (new_level q) side five }

pub top_rules : TopRules (book_meaning 2 of_top best_after)
top_rules =
    record {
      empty = refl;
      belong = λ q. refl;
      settle = λ q. refl;
      bid = λ q s b p c p' c'. rw (b, s) refl;
      offer = λ q s b p c p' c'. rw (b, s) refl;
      others = λ q b r. rw (b) refl;
      imbalances = no_imbalances 2 of_top best_after;
      events = event_rules 2 of_top best_after;
    }

pub imbalance_rules : ImbalanceRules imbalance_meaning
imbalance_rules =
    record {
      empty = refl;
      belong = λ i. refl;
      settle = λ i. refl;
      step = λ i r. refl;
      quotes = λ q. (refl, refl, λ r. refl);
      events = λ e. (refl, refl, λ r. refl);
    }
