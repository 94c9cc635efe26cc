use mathlib.Core.Path.{◌≡◌, refl, sym, ap, ◌∙◌}
use mathlib.Core.List.{List}
use Prim.Native.Nat.{ℕ, ◌<◌}
use native.Mathlib.Omega.{arith}
use borrow.Author.Rules.{rules}
use lib.ListN.{length, take, get_or}
use Rattle.lists.specs.Part.{over}
use Rattle.lists.specs.Rows.{flat}
use Rattle.lists.proofs.OverLaws.{length_over}
use Rattle.book.specs.Rules.{plan_row}
use Rattle.opening_write.proofs.WriteLaws.{place-below, written, write-start, write-turn, length-row, rows_are}
use Rattle.opening_write.proofs.write_rows.Goals as goal

pub loop-i-init : goal.loop-i-init
loop-i-init c = (search rules, refl, write-start plan_row _ c.args.order.now _)

pub overflow_cast-j : goal.overflow_cast-j
overflow_cast-j c =
    let b : get_or c.args.order.now c.loop-i.i 0 < c.args.n =
    place-below c.args.n c.loop-i.i c.args.order.now c.requires.each c.requires.row_wide_in_bounds.2 (omega arith) in
    search rules

pub overflow_mul-j : goal.overflow_mul-j
overflow_mul-j c =
    let b : get_or c.args.order.now c.loop-i.i 0 < c.args.n =
    place-below c.args.n c.loop-i.i c.args.order.now c.requires.each c.requires.row_wide_in_bounds.2 (omega arith) in
    search rules

pub write_row-requires : goal.write_row-requires
write_row-requires c =
    let b : get_or c.args.order.now c.loop-i.i 0 < c.args.n =
    place-below c.args.n c.loop-i.i c.args.order.now c.requires.each c.requires.row_wide_in_bounds.2 (omega arith) in
    (omega arith, omega arith)

pub loop-i-preserved : goal.loop-i-preserved
loop-i-preserved c =
    let l = c.loop-i in
    let a = c.args in
    let t =
    c.write_row.ensures ∙ write-turn plan_row _ length-row a.n a.bodies.now a.order.now c.requires.row_wide_in_bounds.1 l.i a.table.now l.table l.invariant.2 (omega arith) c.requires.row_wide_in_bounds.2 c.requires.each in
    (search rules, ap length t ∙ length_over _ _ _, t)

pub returns : goal.returns
returns c =
    let a = c.args in
    let e : c.loop-i.i ≡ a.n = omega arith in
    c.loop-i.invariant.2 ∙ ap (λ (k : ℕ). over 0 (written plan_row a.bodies.now (take k a.order.now)) a.table.now) e ∙ ap (λ (r : List (List ℕ)). over 0 (flat r) a.table.now) (sym (rows_are _))
