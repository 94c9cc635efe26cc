use mathlib.Core.Path.{◌≡◌}
use Prim.Native.Nat.{◌+◌, ◌*◌, ◌≤◌}
use native.Mathlib.Omega.{arith}
use lib.ListN.{length}
use Rattle.table.specs.Rules.{rows}
use Rattle.table.proofs.RunLaws.{holds_fits, holds-sorted}
use Rattle.passage.specs.Layout.{row_wide}
use Rattle.withdrawals_replay.specs.inner.Slots.{slot_wide, slots_of, puts}
use Rattle.withdrawals_replay.proofs.TableLaws.{put-start, put-room, put-turn, puts-rises}
use Rattle.withdrawals_replay.proofs.put_all.Goals as goal

pub loop-i-init : goal.loop-i-init
loop-i-init c =
    let a = c.args in
    put-start a.count a.table.now a.slots.now c.requires.row_wide_in_bounds.0 c.requires.table_value

pub put_one-held-requires : goal.put_one-held-requires
put_one-held-requires c =
    let there : c.loop-i.i * slot_wide + slot_wide ≤ length c.args.slots.now = omega arith in
    let space : let a = c.args in length (puts (slots_of (c.loop-i.i + 1) a.slots.now) (rows a.count a.table.now)) * row_wide ≤ length a.table.now = let a = c.args in
    omega (arith, puts-rises a.slots.now (rows a.count a.table.now) (c.loop-i.i + 1) a.named (omega arith), c.requires.row_wide_in_bounds.2) in
    let a = c.args in
    let loop = c.loop-i in
    let rs = puts (slots_of loop.i a.slots.now) (rows a.count a.table.now) in
    let h = loop.invariant in
    record { row_wide_in_bounds = (holds_fits a.count a.table.now loop.held loop.table rs h, there, put-room a.count a.table.now a.slots.now loop.i loop.held loop.table h there space); table_value = holds-sorted a.count a.table.now loop.held loop.table rs h }

pub loop-i-preserved : goal.loop-i-preserved
loop-i-preserved c =
    let there : c.loop-i.i * slot_wide + slot_wide ≤ length c.args.slots.now = omega arith in
    let space : let a = c.args in length (puts (slots_of (c.loop-i.i + 1) a.slots.now) (rows a.count a.table.now)) * row_wide ≤ length a.table.now = let a = c.args in
    omega (arith, puts-rises a.slots.now (rows a.count a.table.now) (c.loop-i.i + 1) a.named (omega arith), c.requires.row_wide_in_bounds.2) in
    let a = c.args in
    let loop = c.loop-i in
    let one = c.put_one-held in
    put-turn a.count a.table.now a.slots.now loop.i loop.held loop.table loop.invariant there space one.result _ one.ensures.value one.ensures.table_after

pub returns : goal.returns
returns c =
    let a = c.args in
    let loop = c.loop-i in
    let e : loop.i ≡ a.named = omega arith in
    let h = loop.invariant in
    record { value = rw e at h.count; table_after = rw e at h.stored }
