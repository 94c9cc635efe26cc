use Prim.Native.Nat.{◌+◌, ◌*◌, ◌≤◌}
use native.Mathlib.Omega.{arith}
use lib.ListN.{get_or, length}
use Rattle.book.specs.Entries.{entry_wide, body_at}
use Rattle.passage.specs.Layout.{key_wide}
use Rattle.withdrawals_replay.proofs.BeginLaws.{spot-fits, begin-start, begin-turn, begin-end}
use Rattle.withdrawals_replay.proofs.begin_slots.Goals as goal

pub loop-i-init : goal.loop-i-init
loop-i-init c =
    let a = c.args in
    begin-start a.plans a.book.now a.message.now a.entries a.order.now a.named c.requires.plan_wide_in_bounds.0 c.requires.plan_wide_in_bounds.1 c.requires.plan_wide_in_bounds.2 c.requires.each a.slots.now

pub overflow_cast-p : goal.overflow_cast-p
overflow_cast-p c =
    let spot : let a = c.args in get_or a.order.now c.loop-i.i 0 * entry_wide + body_at + key_wide ≤ length a.message.now = let a = c.args in
    spot-fits a.plans a.book.now a.message.now a.entries a.order.now a.named c.requires.plan_wide_in_bounds.0 c.requires.plan_wide_in_bounds.1 c.requires.plan_wide_in_bounds.2 c.requires.each c.loop-i.i c.loop-i-test.true in
    omega (arith, spot)

pub overflow_mul-p : goal.overflow_mul-p
overflow_mul-p c =
    let spot : let a = c.args in get_or a.order.now c.loop-i.i 0 * entry_wide + body_at + key_wide ≤ length a.message.now = let a = c.args in
    spot-fits a.plans a.book.now a.message.now a.entries a.order.now a.named c.requires.plan_wide_in_bounds.0 c.requires.plan_wide_in_bounds.1 c.requires.plan_wide_in_bounds.2 c.requires.each c.loop-i.i c.loop-i-test.true in
    omega (arith, spot)

pub overflow_add-p : goal.overflow_add-p
overflow_add-p c =
    let spot : let a = c.args in get_or a.order.now c.loop-i.i 0 * entry_wide + body_at + key_wide ≤ length a.message.now = let a = c.args in
    spot-fits a.plans a.book.now a.message.now a.entries a.order.now a.named c.requires.plan_wide_in_bounds.0 c.requires.plan_wide_in_bounds.1 c.requires.plan_wide_in_bounds.2 c.requires.each c.loop-i.i c.loop-i-test.true in
    omega (arith, spot)

pub begin_slot-requires : goal.begin_slot-requires
begin_slot-requires c =
    let spot : let a = c.args in get_or a.order.now c.loop-i.i 0 * entry_wide + body_at + key_wide ≤ length a.message.now = let a = c.args in
    spot-fits a.plans a.book.now a.message.now a.entries a.order.now a.named c.requires.plan_wide_in_bounds.0 c.requires.plan_wide_in_bounds.1 c.requires.plan_wide_in_bounds.2 c.requires.each c.loop-i.i c.loop-i-test.true in
    record { plan_wide_in_bounds = (c.requires.plan_wide_in_bounds.0, spot, omega arith); book_value = c.requires.book_value }

pub loop-i-preserved : goal.loop-i-preserved
loop-i-preserved c =
    let a = c.args in
    let loop = c.loop-i in
    begin-turn a.plans a.book.now a.message.now a.entries a.order.now a.named c.requires.plan_wide_in_bounds.0 c.requires.plan_wide_in_bounds.1 c.requires.plan_wide_in_bounds.2 c.requires.each a.slots.now loop.i loop.slots _ c.loop-i-test.true
    loop.invariant c.begin_slot.ensures

pub returns : goal.returns
returns c =
    let a = c.args in
    let loop = c.loop-i in
    begin-end a.plans a.book.now a.message.now a.entries a.order.now a.named c.requires.plan_wide_in_bounds.0 c.requires.plan_wide_in_bounds.1 c.requires.plan_wide_in_bounds.2 c.requires.each a.slots.now loop.i loop.slots (omega arith) loop.invariant
