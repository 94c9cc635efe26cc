-- An update in range makes a row in range. Assumes nothing.
use mathlib.Core.Path.{◌≡◌, ◌∙◌}
use mathlib.Core.Bool.{Bool, true, false}
use mathlib.Core.List.{List, [], ◌∷◌}
use mathlib.Core.Logic.{◌⊎◌, inl, inr, ⊎_elim}
use Prim.Native.Nat.{ℕ, ◌≤◌}
use native.Mathlib.Omega.{arith}
use borrow.Author.Tests.{eq-eqb}
use lib.Dec.{eqb}
use lib.ListN.{length}
use Rattle.lists.specs.Logic.{on}
use Rattle.passage.specs.Layout.{body_wide, kept, status_of, show_cancelled_of, flexible_of, monitored_of}
use Rattle.passage.specs.Ranges.{common_in_range, update_in_range, row_in_range}
use Rattle.passage.proofs.RangeLaws.{common-facts, facts-common, update-facts, row-facts, facts-row}
use Rattle.update.specs.Moves.{may_move, keeps}
use Rattle.update.specs.Rule.{beginning, begun, row_rule}
use Rattle.update.proofs.RuleLaws.{rule-key, rule-destination, rule-stamp, rule-arrival, rule-departure, rule-stop-type, rule-heard, rule-status, rule-show, rule-flexible, rule-monitored}

on-most : (m a b : ℕ) (t : Bool) → a ≤ m → b ≤ m → on t a b ≤ m
on-most m a b true h k = h
on-most m a b false h k = k

-- the content of an optional stays within its bound, since 255 is never what becomes of it
keeps-most : (m held said : ℕ) → held ≤ m → (said ≤ m) ⊎ (said ≡ kept) → keeps held said ≤ m
keeps-most m held said h k = ⊎_elim (λ s. on-most m held said (eqb said kept) h s) (λ e. rw (eq-eqb said kept e) h) k

-- the four fields of what is held that a row can keep
abbrev Bounds : List ℕ → Type 0
Bounds r = (status_of r ≤ 5) × (show_cancelled_of r ≤ 2) × (flexible_of r ≤ 3) × (monitored_of r ≤ 1)

begun-bounds : (h : List ℕ) → (h ≡ []) ⊎ (row_in_range h ≡ true) → Bounds (begun h)
unfolding beginning
begun-bounds [] k = (omega arith, omega arith, omega arith, omega arith)
begun-bounds (b ∷ r) k =
    ⊎_elim
    (λ e. absurd (let z : ◌≡◌ {A = ℕ} 0 1 = cc in omega arith))
    (λ e. let f = row-facts (b ∷ r) e in (f.status, f.show-cancelled, f.flexible, f.monitored))
    k

module _ (h u : List ℕ) (wide : length u ≡ body_wide) where
  rule-common : common_in_range (row_rule h u) ≡ common_in_range u
  unfolding common_in_range
  rule-common = rw (rule-key h u wide, rule-destination h u wide, rule-stop-type h u wide, rule-arrival h u wide, rule-departure h u wide)

  pub rule-in-range : update_in_range u ≡ true → (h ≡ []) ⊎ (row_in_range h ≡ true) → row_in_range (row_rule h u) ≡ true
  rule-in-range e k =
      let f = update-facts u e in
      let g = begun-bounds h k in
      facts-row (row_rule h u)
      record {
        common = common-facts (row_rule h u) (rule-common ∙ facts-common u f.common);
        heard = inr (rule-heard h u wide, rw (rule-stamp h u wide) f.stamp);
        status = rw (rule-status h u wide) (on-most 5 (status_of u) (status_of (begun h)) (may_move (status_of (begun h)) (status_of u)) f.status g.0);
        show-cancelled = rw (rule-show h u wide) (keeps-most 2 _ _ g.1 f.show-cancelled);
        flexible = rw (rule-flexible h u wide) (keeps-most 3 _ _ g.2 (⊎_elim (λ p. inl p.1) (λ p. inr p) f.flexible));
        monitored = rw (rule-monitored h u wide) (keeps-most 1 _ _ g.3 f.monitored);
      }
