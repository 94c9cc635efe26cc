use mathlib.Core.Path.{◌≡◌, sym, ap, ◌∙◌}
use mathlib.Core.List.{List}
use Prim.Native.Nat.{ℕ, ◌+◌, ◌*◌, ◌<◌}
use native.Mathlib.Omega.{arith}
use lib.ListN.{length, length-take, length-drop}
use Rattle.lists.specs.Part.{part, over}
use Rattle.lists.proofs.OverLaws.{over-nil, length_over}
use Rattle.passage.specs.Layout.{key_wide, body_wide}
use Rattle.std.specs.Prelude.{Ok}
use Rattle.keys.specs.Sorted.{lookup}
use Rattle.book.specs.Entries.{plan_wide}
use Rattle.book.specs.inner.Steps.{plan_body_at}
use Rattle.book.proofs.WriteLaws.{lent-part}
use Rattle.book.proofs.PlanLaws.{bodies}
use Rattle.book_find.proofs.FindLaws.{found_below, row-found, row-missing, some-row, row_written}
use borrow.Author.Rules.{rules}
use Rattle.book_find.proofs.plan_row.Goals as goal

pub overflow_mul-p : goal.overflow_mul-p
overflow_mul-p c =
    let found : Ok c.in-Ok.i ≡ lookup (part c.args.from key_wide c.args.key.now) (bodies c.args.plans c.args.book.now) = sym c.in-Ok.is ∙ c.find_plan-f.ensures in
    let below : c.in-Ok.i < c.args.plans = found_below c.args.plans c.args.book.now _ c.requires.plan_wide_in_bounds.0 _ found in
    let h = below in search rules

pub overflow_add-p : goal.overflow_add-p
overflow_add-p c =
    let found : Ok c.in-Ok.i ≡ lookup (part c.args.from key_wide c.args.key.now) (bodies c.args.plans c.args.book.now) = sym c.in-Ok.is ∙ c.find_plan-f.ensures in
    let below : c.in-Ok.i < c.args.plans = found_below c.args.plans c.args.book.now _ c.requires.plan_wide_in_bounds.0 _ found in
    let h = below in search rules

pub overflow_add-p-in-Ok : goal.overflow_add-p-in-Ok
overflow_add-p-in-Ok c =
    let found : Ok c.in-Ok.i ≡ lookup (part c.args.from key_wide c.args.key.now) (bodies c.args.plans c.args.book.now) = sym c.in-Ok.is ∙ c.find_plan-f.ensures in
    let below : c.in-Ok.i < c.args.plans = found_below c.args.plans c.args.book.now _ c.requires.plan_wide_in_bounds.0 _ found in
    let h = below in search rules

pub slice_bounds-copy_to-end : goal.slice_bounds-copy_to-end
slice_bounds-copy_to-end c =
    let found : Ok c.in-Ok.i ≡ lookup (part c.args.from key_wide c.args.key.now) (bodies c.args.plans c.args.book.now) = sym c.in-Ok.is ∙ c.find_plan-f.ensures in
    let below : c.in-Ok.i < c.args.plans = found_below c.args.plans c.args.book.now _ c.requires.plan_wide_in_bounds.0 _ found in
    let h = below in search rules

pub copy_to-requires : goal.copy_to-requires
copy_to-requires c =
    let found : Ok c.in-Ok.i ≡ lookup (part c.args.from key_wide c.args.key.now) (bodies c.args.plans c.args.book.now) = sym c.in-Ok.is ∙ c.find_plan-f.ensures in
    let below : c.in-Ok.i < c.args.plans = found_below c.args.plans c.args.book.now _ c.requires.plan_wide_in_bounds.0 _ found in
    let h = below in simp (length-take, length-drop) (omega arith)

pub bounds-out-at : goal.bounds-out-at
bounds-out-at c =
    let l = ap length c.copy_to.ensures ∙ length_over _ _ _ in
    omega arith

pub returns-in-Ok : goal.returns-in-Ok
returns-in-Ok c =
    let found : Ok c.in-Ok.i ≡ lookup (part c.args.from key_wide c.args.key.now) (bodies c.args.plans c.args.book.now) = sym c.in-Ok.is ∙ c.find_plan-f.ensures in
    let below : c.in-Ok.i < c.args.plans = found_below c.args.plans c.args.book.now _ c.requires.plan_wide_in_bounds.0 _ found in
    let i = c.in-Ok.i in
    let g = row-found c.args.plans c.args.book.now (part c.args.from key_wide c.args.key.now) c.requires.plan_wide_in_bounds.0 i found in
    let h = below in
    let e = c.copy_to.ensures ∙ ap (λ (r : List ℕ). over c.args.at r c.args.out.now) (lent-part (i * plan_wide + 1) body_wide c.args.book.now) in
    record { value = rw g (some-row (plan_body_at i c.args.book.now)); out_after = rw g (row_written c.args.at (i * plan_wide + 1) c.args.book.now c.args.out.now c.copy_to.new.elements (omega arith) e) }

pub returns-in-Err : goal.returns-in-Err
returns-in-Err c =
    let g = row-missing c.args.plans c.args.book.now (part c.args.from key_wide c.args.key.now) c.requires.plan_wide_in_bounds.0 c.in-Err.field-0 (sym c.in-Err.is ∙ c.find_plan-f.ensures) in
    record { value = rw g; out_after = rw (g, over-nil) }
