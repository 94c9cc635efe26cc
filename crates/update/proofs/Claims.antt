-- The claims of `specs/Claims.antt` hold. Assumes nothing.
use mathlib.Core.Path.{◌≡◌, refl, sym, ap, ◌∙◌}
use mathlib.Core.Bool.{Bool}
use mathlib.Core.List.{List, [], map}
use Prim.Native.Nat.{ℕ}
use borrow.Author.Tests.{eq-eqb, ne_eqb}
use lib.Dec.{eqb}
use lib.ListN.{get_or, get_or-map}
use Rattle.passage.specs.Layout.{status_of}
use Rattle.update.specs.Moves.{table17, may_move, status_after, keeps}
use Rattle.update.specs.Rule.{beginning, begun}
use Rattle.update.specs.Claims.{moves, MovesByTable, StatusByTable, LeavesOrTakes, OptionalsKeep, BeginsPlanned, ArrivedStays, All}
use Rattle.update.proofs.RuleLaws.{rule-wide, rule-key, rule-destination, rule-stamp, rule-arrival, rule-departure, rule-stop-type, rule-heard, rule-status, rule-show, rule-flexible, rule-monitored}
use Rattle.update.proofs.InRangeLaws.{rule-in-range}

-- ---- statuses

is_j : ℕ → Bool
is_j b = eqb b 74

-- the letters read as tests are the table of tests
moves-is : moves ≡ map (map is_j) table17
unfolding is_j table17
moves-is = refl

moves-by-table : MovesByTable
unfolding is_j may_move
moves-by-table held said =
    sym (get_or-map is_j (get_or table17 held []) said 0)
    ∙ ap (λ (l : List Bool). get_or l said (is_j 0)) (sym (get_or-map (map is_j) table17 held []) ∙ ap (λ (t : List (List Bool)). get_or t held []) (sym moves-is))

arrived-after : (status_after 4 3 ≡ 4) × (status_after 5 4 ≡ 4)
unfolding may_move table17
arrived-after = (refl, refl)

-- ---- the row rule

status-by-table : StatusByTable
status-by-table h u wide =
    let moved = moves-by-table (status_of (begun h)) (status_of u) in
    (λ e. rule-status h u wide ∙ rw (moved ∙ e), λ e. rule-status h u wide ∙ rw (moved ∙ e))

leaves-or-takes : (held said becomes : ℕ) → becomes ≡ keeps held said → LeavesOrTakes held said becomes
leaves-or-takes held said becomes e = (λ p. e ∙ rw (eq-eqb said 255 p), λ p. e ∙ rw (ne_eqb said 255 p))

optionals-keep : OptionalsKeep
optionals-keep h u wide = (
  leaves-or-takes _ _ _ (rule-show h u wide),
  leaves-or-takes _ _ _ (rule-flexible h u wide),
  leaves-or-takes _ _ _ (rule-monitored h u wide),
)

begins-planned : BeginsPlanned
unfolding beginning
begins-planned = (refl, refl, refl, refl)

arrived-stays : ArrivedStays
arrived-stays h u wide = (λ e f. rule-status h u wide ∙ rw (e, f) arrived-after.0, λ e f. rule-status h u wide ∙ rw (e, f) arrived-after.1)

pub claims : All
claims = (
  moves-by-table,
  rule-key,
  rule-wide,
  rule-heard,
  λ h u wide. (
    rule-destination h u wide,
    rule-stamp h u wide,
    rule-arrival h u wide,
    rule-departure h u wide,
    rule-stop-type h u wide,
  ),
  status-by-table,
  optionals-keep,
  λ b r. refl,
  begins-planned,
  rule-in-range,
  arrived-stays,
)
