use mathlib.Core.Path.{◌≡◌}
use native.Mathlib.Omega.{arith}
use Rattle.table.specs.Rules.{rows}
use Rattle.table.proofs.RunLaws.{holds_fits, holds-sorted}
use Rattle.withdrawals_replay.specs.inner.Slots.{slots_of, removals}
use Rattle.withdrawals_replay.proofs.TableLaws.{removed-start, removed-turn}
use Rattle.withdrawals_replay.proofs.remove_all.Goals as goal

pub loop-i-init : goal.loop-i-init
loop-i-init c =
    let a = c.args in
    removed-start a.count a.table.now a.slots.now c.requires.row_wide_in_bounds.0 c.requires.table_value

pub remove_one-held-requires : goal.remove_one-held-requires
remove_one-held-requires c =
    let a = c.args in
    let loop = c.loop-i in
    let rs = removals (slots_of loop.i a.slots.now) (rows a.count a.table.now) in
    let h = loop.invariant.0 in
    record { row_wide_in_bounds = (holds_fits a.count a.table.now loop.held loop.table rs h, omega arith); table_value = holds-sorted a.count a.table.now loop.held loop.table rs h }

pub loop-i-preserved : goal.loop-i-preserved
loop-i-preserved c =
    let a = c.args in
    let loop = c.loop-i in
    let one = c.remove_one-held in
    removed-turn a.count a.table.now a.slots.now loop.i loop.held loop.table one.result _ loop.invariant one.ensures.value one.ensures.table_after

pub returns : goal.returns
returns c =
    let a = c.args in
    let loop = c.loop-i in
    let e : loop.i ≡ a.named = omega arith in
    let h = loop.invariant.0 in
    record { value = rw e at h.count; table_after = rw e at h.stored }
