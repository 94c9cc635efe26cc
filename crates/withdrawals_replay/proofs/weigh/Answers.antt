use mathlib.Core.Path.{sym, ◌∙◌}
use borrow.Author.Rules.{rules}
use Prim.Native.Nat.{◌+◌}
use Rattle.lists.specs.Part.{part}
use Rattle.passage.specs.Layout.{key_wide, row_wide}
use Rattle.keys.proofs.PutLaws.{found_below}
use Rattle.withdrawals_replay.proofs.TableLaws.{weigh-both, weigh-gone, weigh-come, weigh-neither}
use Rattle.withdrawals_replay.proofs.weigh.Goals as goal

pub overflow_add-near : goal.overflow_add-near
overflow_add-near c =
    let a = c.args in
    let h = found_below row_wide a.count _ (part (a.at + 1) key_wide a.slots.now) a.table.now (sym c.find_near-f.ensures ∙ c.in-Ok.is) in
    search rules

pub returns-then-has-eq1 : goal.returns-then-has-eq1
returns-then-has-eq1 c =
    let a = c.args in
    weigh-both a.count a.at _ a.table.now a.slots.now c.requires.row_wide_in_bounds.0 c.requires.row_wide_in_bounds.1 (sym c.in-Ok.is ∙ c.find_near-f.ensures) c.if-has-eq1.true

pub returns-else-has-eq1 : goal.returns-else-has-eq1
returns-else-has-eq1 c =
    let a = c.args in
    weigh-gone a.count a.at _ a.table.now a.slots.now c.requires.row_wide_in_bounds.0 c.requires.row_wide_in_bounds.1 (sym c.in-Ok.is ∙ c.find_near-f.ensures) c.if-has-eq1.false

pub returns-then-has-eq1-2 : goal.returns-then-has-eq1-2
returns-then-has-eq1-2 c =
    let a = c.args in
    weigh-come a.count a.at _ a.table.now a.slots.now c.requires.row_wide_in_bounds.0 c.requires.row_wide_in_bounds.1 (sym c.in-Err.is ∙ c.find_near-f.ensures) c.if-has-eq1-2.true

pub returns-else-has-eq1-2 : goal.returns-else-has-eq1-2
returns-else-has-eq1-2 c =
    let a = c.args in
    weigh-neither a.count a.at _ a.table.now a.slots.now c.requires.row_wide_in_bounds.0 c.requires.row_wide_in_bounds.1 (sym c.in-Err.is ∙ c.find_near-f.ensures) c.if-has-eq1-2.false
