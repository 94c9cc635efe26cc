use mathlib.Core.Path.{◌≡◌, sym, ap, ◌∙◌}
use mathlib.Core.Bool.{◌&&◌}
use Prim.Native.Nat.{◌+◌, ◌*◌}
use native.Mathlib.Omega.{arith}
use borrow.Author.Rules.{rules}
use Rattle.passage.specs.Layout.{row_wide}
use Rattle.passage.proofs.CommonLaws.{common-start, common-now}
use Rattle.table.specs.Rules.{rows, all_in_range}
use Rattle.table.proofs.SoundLaws.{rest, rest-start, range-step, range-end}
use Rattle.table.proofs.all_in_range.Goals as goal

pub loop-row-init : goal.loop-row-init
loop-row-init c =
    let s = c.args in
    (ap all_in_range (rest-start s.count s.table.now), sym (common-start row_wide 0 s.count 0 s.table.now) ∙ c.requires.table_value)

pub row_in_range-requires : goal.row_in_range-requires
row_in_range-requires c =
    let s = c.args in
    let row = c.loop-row.row in
    let e : 0 + row * row_wide + 0 ≡ row * row_wide = omega arith in
    let common = common-now row_wide 0 s.count 0 s.table.now row c.loop-row-test.true (omega arith) c.loop-row.invariant.1 in
    record { row_wide_in_bounds = search rules; bytes_value = rw e at common.0 }

pub loop-row-preserved : goal.loop-row-preserved
loop-row-preserved c =
    let s = c.args in
    let row = c.loop-row.row in
    let common = common-now row_wide 0 s.count 0 s.table.now row c.loop-row-test.true (omega arith) c.loop-row.invariant.1 in
    (c.loop-row.invariant.0 ∙ range-step s.count s.table.now row c.loop-row-test.true ∙ rw (← c.row_in_range.ensures, c.if-not-row_in_range.false), common.1)

pub returns-then-not-row_in_range : goal.returns-then-not-row_in_range
returns-then-not-row_in_range c =
    let s = c.args in
    sym (c.loop-row.invariant.0 ∙ range-step s.count s.table.now c.loop-row.row c.loop-row-test.true ∙ rw (← c.row_in_range.ensures, c.if-not-row_in_range.true))

pub returns : goal.returns
returns c =
    let s = c.args in
    sym (c.loop-row.invariant.0 ∙ range-end s.count s.table.now c.loop-row.row c.loop-row-test.false)
