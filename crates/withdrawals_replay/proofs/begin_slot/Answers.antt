use mathlib.Core.Path.{sym, ◌∙◌}
use native.Mathlib.Omega.{arith}
use lib.ListN.{length-set}
use Rattle.book.specs.Rules.{plan_rows}
use Rattle.keys.specs.Sorted.{get}
use Rattle.book.proofs.PlanLaws.{bodies, wide-bodies}
use Rattle.book.proofs.WriteLaws.{lent-part}
use Rattle.lists.specs.Part.{part}
use Rattle.lists.proofs.PartLaws.{length_part}
use Rattle.passage.specs.Layout.{key_wide}
use Rattle.withdrawals_replay.specs.inner.Worked.{begun_slot}
use Rattle.withdrawals_replay.proofs.SlotLaws.{planned-whole}
use Rattle.withdrawals_replay.proofs.SlotWriteLaws.{slot-planned, slot-bare}
use Rattle.withdrawals_replay.proofs.begin_slot.Goals as goal

pub copy_to-requires : goal.copy_to-requires
copy_to-requires c =
    let a = c.args in
    let l = length-set a.slots.now a.at 0 in
    rw (lent-part a.from key_wide a.message.now, length_part a.from key_wide a.message.now (omega arith)) (omega arith)

pub clear-requires : goal.clear-requires
clear-requires c =
    let a = c.args in
    let l = length-set a.slots.now a.at 0 in
    omega arith

pub plan_row-requires : goal.plan_row-requires
plan_row-requires c =
    let a = c.args in
    let l = length-set a.slots.now a.at 0 in
    record { plan_wide_in_bounds = (c.requires.plan_wide_in_bounds.0, c.requires.plan_wide_in_bounds.1); book_value = c.requires.book_value; row_wide_in_bounds = omega arith }

pub bounds-slots-at-then-plan_row : goal.bounds-slots-at-then-plan_row
bounds-slots-at-then-plan_row c =
    let a = c.args in
    let l = length-set a.slots.now a.at 0 in
    omega arith

pub shape_of-slots-then-plan_row : goal.shape_of-slots-then-plan_row
shape_of-slots-then-plan_row c =
    let a = c.args in
    let l = length-set a.slots.now a.at 0 in
    simp length-set (omega arith)

pub returns-then-plan_row : goal.returns-then-plan_row
unfolding begun_slot
returns-then-plan_row c =
    let a = c.args in
    let k = part a.from key_wide a.message.now in
    let plan = c.plan_row in
    slot-planned a.at k a.slots.now _ _ (length_part a.from key_wide a.message.now c.requires.plan_wide_in_bounds.1) (rw (lent-part a.from key_wide a.message.now) at c.copy_to.ensures) c.clear.ensures
    (get k (plan_rows (bodies a.plans a.book.now))) _ plan.ensures.out_after (planned-whole (bodies a.plans a.book.now) (wide-bodies a.plans a.book.now c.requires.plan_wide_in_bounds.0) k) (sym plan.ensures.value ∙ c.if-plan_row.true)

pub returns-else-plan_row : goal.returns-else-plan_row
unfolding begun_slot
returns-else-plan_row c =
    let a = c.args in
    let k = part a.from key_wide a.message.now in
    let plan = c.plan_row in
    slot-bare a.at k a.slots.now _ _ (length_part a.from key_wide a.message.now c.requires.plan_wide_in_bounds.1) (rw (lent-part a.from key_wide a.message.now) at c.copy_to.ensures) c.clear.ensures
    (get k (plan_rows (bodies a.plans a.book.now))) _ plan.ensures.out_after (sym plan.ensures.value ∙ c.if-plan_row.false)
