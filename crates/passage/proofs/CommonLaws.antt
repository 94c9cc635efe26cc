-- What bodies have in common, in rows of any width in bytes. Assumes nothing.
use mathlib.Core.Path.{◌≡◌, refl, sym, ap, ◌∙◌}
use mathlib.Core.Bool.{true, ◌&&◌}
use mathlib.Core.List.{List, map}
use Prim.Native.Nat.{ℕ, ◌+◌, ◌*◌, ◌-◌, ◌≤◌, ◌<◌}
use native.Mathlib.Omega.{arith}
use lib.ListN.{drop}
use lib.Seq.{drop-drop}
use Rattle.lists.specs.Part.{part}
use Rattle.lists.specs.Rows.{rows_of}
use Rattle.lists.specs.BigEndian.{number}
use Rattle.lists.proofs.LogicLaws.{and-pass}
use Rattle.lists.proofs.PartLaws.{part-part}
use Rattle.lists.proofs.RowLaws.{rows_of-step, rows_of-start}
use Rattle.clock.specs.Date.{days_in, is_date}
use Rattle.passage.specs.Layout.{date_offset, date_wide, body_wide}
use Rattle.passage.specs.Ranges.{common_in_range}
use Rattle.passage.proofs.RangeLaws.{common-facts}
use Rattle.passage.specs.inner.Roles.{all_common}

-- a date to begin with
pub first-date : is_date 20000101 ≡ true
unfolding is_date days_in
first-date = refl

part-drop : (a k m : ℕ) (l : List ℕ) → part k m (drop a l) ≡ part (a + k) m l
unfolding part
part-drop a k m l = rw (drop-drop k a l)

-- what is left from row i on
module _ (w off n at : ℕ) (s : List ℕ) where
  abbrev pub left : ℕ → List (List ℕ)
  left i = map (part off body_wide) (rows_of w (n - i) (drop (i * w) (drop at s)))

  pub common-start : all_common (map (part off body_wide) (rows_of w n (drop at s))) ≡ all_common (left 0)
  common-start = ap (λ (rs : List (List ℕ)). all_common (map (part off body_wide) rs)) (rows_of-start w n (drop at s))

  pub common-end : (i : ℕ) → n ≤ i → all_common (left i) ≡ true
  unfolding all_common rows_of
  common-end i h = let e : n - i ≡ 0 = omega arith in rw e

  module _ (i : ℕ) (h : i < n) (k : off + body_wide ≤ w) where
    body-here : part off body_wide (part (i * w) w (drop at s)) ≡ part (at + i * w + off) body_wide s
    body-here =
        let e : at + (i * w + off) ≡ at + i * w + off = omega arith in
        part-part off body_wide (i * w) w (drop at s) k ∙ part-drop at (i * w + off) body_wide s ∙ ap (λ (m : ℕ). part m body_wide s) e

    pub common-step : all_common (left i) ≡ common_in_range (part (at + i * w + off) body_wide s) && all_common (left (i + 1))
    unfolding all_common
    common-step = rw (rows_of-step w n i (drop at s) h, body-here)

    pub common-now : all_common (left i) ≡ true → (common_in_range (part (at + i * w + off) body_wide s) ≡ true) × (all_common (left (i + 1)) ≡ true)
    common-now e = and-pass (common_in_range (part (at + i * w + off) body_wide s)) (all_common (left (i + 1))) (sym common-step ∙ e)

pub common-date : (at : ℕ) (s : List ℕ) → common_in_range (part at body_wide s) ≡ true → is_date (number (part (at + date_offset) date_wide s)) ≡ true
common-date at s e = rw (part-part date_offset date_wide at body_wide s (omega arith)) at (common-facts (part at body_wide s) e).key.date
