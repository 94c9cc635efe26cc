use native.Mathlib.Omega.{arith}
use Rattle.table.specs.Rules.{rows}
use Rattle.withdrawals_replay.proofs.TableLaws.{sum-start, sum-turn, sum-end}
use Rattle.withdrawals_replay.proofs.count_after.Goals as goal

pub loop-i-init : goal.loop-i-init
loop-i-init c =
    let a = c.args in
    sum-start (rows a.count a.table.now) a.named a.slots.now a.count

pub weigh-sum-requires : goal.weigh-sum-requires
weigh-sum-requires c =
    record { row_wide_in_bounds = (c.requires.row_wide_in_bounds.0, omega arith); table_value = c.requires.table_value }

pub overflow_add-sum : goal.overflow_add-sum
overflow_add-sum c =
    let a = c.args in
    let loop = c.loop-i in
    let s = loop.invariant.small in
    let t = (sum-turn (rows a.count a.table.now) a.named a.slots.now a.count loop.i loop.sum c.weigh-sum.result c.loop-i-test.true loop.invariant c.weigh-sum.ensures).small in
    omega arith

pub loop-i-preserved : goal.loop-i-preserved
loop-i-preserved c =
    let a = c.args in
    let loop = c.loop-i in
    sum-turn (rows a.count a.table.now) a.named a.slots.now a.count loop.i loop.sum c.weigh-sum.result c.loop-i-test.true loop.invariant c.weigh-sum.ensures

pub returns : goal.returns
returns c =
    let a = c.args in
    let loop = c.loop-i in
    sum-end (rows a.count a.table.now) a.named a.slots.now a.count loop.i loop.sum c.loop-i-test.false loop.invariant
