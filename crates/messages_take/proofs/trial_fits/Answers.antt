use Prim.Native.Nat.{◌-◌}
use Rattle.messages_take.proofs.TrialLaws.{trying_start, trying-asked, trying-again, trying-over, trying-end}
use Rattle.messages_take.proofs.trial_fits.Goals as goal

pub loop-tried-init : goal.loop-tried-init
loop-tried-init c =
    let a = c.args in
    let copied = c.copy_to in
    trying_start a.bodies.now a.table.now a.trial.now copied.new.elements a.count a.updates a.most (c.requires.row_wide_in_bounds, c.requires.table_value) copied.ensures

pub take_row-held-requires : goal.take_row-held-requires
take_row-held-requires c =
    let l = c.loop-tried in
    let copied = c.copy_to in
    let a = c.args in
    let t = trying-asked a.bodies.now a.table.now a.trial.now copied.new.elements a.count a.updates a.most (c.requires.row_wide_in_bounds, c.requires.table_value) copied.ensures l.tried l.held l.trial c.loop-tried-test.true l.invariant in
    record { row_wide_in_bounds = t.0; table_value = t.1.0; row_wide_in_bounds_2 = t.1.1 }

pub returns-then-most-held : goal.returns-then-most-held
returns-then-most-held c =
    let row = c.take_row-held in
    let l = c.loop-tried in
    let copied = c.copy_to in
    let a = c.args in
    trying-over a.bodies.now a.table.now a.trial.now copied.new.elements a.count a.updates a.most (c.requires.row_wide_in_bounds, c.requires.table_value) copied.ensures l.tried l.held l.trial
    c.loop-tried-test.true l.invariant row.result row.new.table (row.ensures.value, row.ensures.table_after) c.if-most-held.true

pub loop-tried-preserved : goal.loop-tried-preserved
loop-tried-preserved c =
    let row = c.take_row-held in
    let l = c.loop-tried in
    let copied = c.copy_to in
    let a = c.args in
    trying-again a.bodies.now a.table.now a.trial.now copied.new.elements a.count a.updates a.most (c.requires.row_wide_in_bounds, c.requires.table_value) copied.ensures l.tried l.held l.trial
    c.loop-tried-test.true l.invariant row.result row.new.table (row.ensures.value, row.ensures.table_after) c.if-most-held.false

pub returns : goal.returns
returns c =
    let l = c.loop-tried in
    let copied = c.copy_to in
    let a = c.args in
    trying-end a.bodies.now a.table.now a.trial.now copied.new.elements a.count a.updates a.most (c.requires.row_wide_in_bounds, c.requires.table_value) copied.ensures l.tried l.held l.trial c.loop-tried-test.false l.invariant
