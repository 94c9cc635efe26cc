use mathlib.Core.Path.{refl}
use mathlib.Core.Bool.{true}
use Rattle.lists.specs.Rows.{rows_of}
use Rattle.passage.specs.Layout.{row_wide}
use Rattle.messages_take.proofs.LoopLaws.{after}
use Rattle.messages_take.proofs.TrialLaws.{all_fit}
use Rattle.messages_take.proofs.FittingLaws.{fits-room, fits-yes}
use Rattle.messages_take.proofs.take_fitting.Goals as goal

pub take_all-requires : goal.take_all-requires
take_all-requires c =
    let a = c.args in
    let p = c.requires in
    let fit = all_fit a.bodies.now a.table.now a.count a.updates a.most c.if-count-updates.true in
    record { row_wide_in_bounds = (p.row_wide_in_bounds.0, p.row_wide_in_bounds.1); table_value = p.table_value; row_wide_in_bounds_2 = fits-room a.count a.most (after a.bodies.now (rows_of row_wide a.count a.table.now) a.updates) a.table.now true fit refl p.row_wide_in_bounds_2 }

pub returns-then-count-updates : goal.returns-then-count-updates
returns-then-count-updates c =
    let a = c.args in
    let took = c.take_all in
    let fit = all_fit a.bodies.now a.table.now a.count a.updates a.most c.if-count-updates.true in
    let t = fits-yes a.count a.most (after a.bodies.now (rows_of row_wide a.count a.table.now) a.updates) a.table.now true fit refl took.result _ (took.ensures.value, took.ensures.table_after) in record { value = t.0; table_after = t.1 }

pub returns : goal.returns
returns c = record { value = c.take_tight.ensures.value; table_after = c.take_tight.ensures.table_after }
