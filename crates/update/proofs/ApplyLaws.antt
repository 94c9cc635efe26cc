-- The writes of `apply_row`, one after another, are the row rule. Assumes nothing.
use mathlib.Core.Path.{◌≡◌, ap, ◌∙◌}
use mathlib.Core.List.{List, [], ◌∷◌, ◌++◌}
use Prim.Native.Nat.{ℕ, ◌+◌, ◌-◌, ◌≤◌, ◌<◌}
use native.Mathlib.Omega.{arith}
use lib.ListN.{length, take, drop, get_or, set, replicate, length-append, length-set}
use Rattle.lists.specs.Part.{part, over}
use Rattle.lists.proofs.PartLaws.{part_at, length_part}
use Rattle.lists.proofs.TurnLaws.{put_up}
use Rattle.passage.specs.Layout.{body_wide, row_wide, status_at, show_cancelled_at, flexible_at, monitored_at, heard_at}
use Rattle.update.specs.Moves.{status_after, keeps}
use Rattle.update.specs.Rule.{apply_row, beginning}
use Rattle.update.proofs.SetLaws.{over-set}

-- one more byte set in a row that was written from `at` on
set-in : (at i v : ℕ) (r d s : List ℕ) → s ≡ over at r d → i < length r → set s (at + i) v ≡ over at (set r i v) d
set-in at i v r d s e h = rw e (over-set at i v r d h)

pub begin-writes : (at : ℕ) (d s : List ℕ) → s ≡ over at (replicate row_wide 0) d → set s (at + show_cancelled_at) 1 ≡ over at beginning d
unfolding beginning
begin-writes at d s e = set-in at show_cancelled_at 1 (replicate row_wide 0) d s e (omega arith)

module _ (row u : List ℕ) (at p : ℕ) (fits : p + body_wide ≤ length u) where
  -- the body, as the code lends it
  body-lent : take (p + body_wide - p) (drop p u) ≡ part p body_wide u
  unfolding part
  body-lent = let e : p + body_wide - p ≡ body_wide = omega arith in rw e

  pub apply-writes :
      (s : List ℕ) (status show flexible monitored : ℕ)
      → s ≡ over at (take (p + body_wide - p) (drop p u)) row
      → status ≡ status_after (get_or row (at + status_at) 0) (get_or u (p + status_at) 0)
      → show ≡ keeps (get_or row (at + show_cancelled_at) 0) (get_or u (p + show_cancelled_at) 0)
      → flexible ≡ keeps (get_or row (at + flexible_at) 0) (get_or u (p + flexible_at) 0)
      → monitored ≡ keeps (get_or row (at + monitored_at) 0) (get_or u (p + monitored_at) 0)
      → set (set (set (set (set s (at + heard_at) 1) (at + status_at) status) (at + show_cancelled_at) show) (at + flexible_at) flexible) (at + monitored_at) monitored
      ≡ over at (apply_row (part at row_wide row) (part p body_wide u)) row
  unfolding apply_row
  apply-writes s status show flexible monitored e e₁ e₂ e₃ e₄ =
      let b = part p body_wide u in
      let l : length b ≡ body_wide = length_part p body_wide u fits in
      let n : length (b ++ 1 ∷ []) ≡ row_wide = simp length-append (omega arith) in
      let w = put_up at heard_at 1 b row s (e ∙ ap (λ (v : List ℕ). over at v row) body-lent) l in
      let w₁ = set-in at status_at status _ row _ w (omega arith) in
      let w₂ = set-in at show_cancelled_at show _ row _ w₁ (simp length-set (omega arith)) in
      let w₃ = set-in at flexible_at flexible _ row _ w₂ (simp length-set (omega arith)) in
      let w₄ = set-in at monitored_at monitored _ row _ w₃ (simp length-set (omega arith)) in
      rw (
        part_at at row_wide row status_at (omega arith),
        part_at at row_wide row show_cancelled_at (omega arith),
        part_at at row_wide row flexible_at (omega arith),
        part_at at row_wide row monitored_at (omega arith),
        part_at p body_wide u status_at (omega arith),
        part_at p body_wide u show_cancelled_at (omega arith),
        part_at p body_wide u flexible_at (omega arith),
        part_at p body_wide u monitored_at (omega arith),
        ← e₁,
        ← e₂,
        ← e₃,
        ← e₄,
      )
      w₄
