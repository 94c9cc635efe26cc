use Rattle.lists.specs.Rows.{rows_of}
use Rattle.passage.specs.Layout.{row_wide}
use Rattle.messages_take.proofs.LoopLaws.{after}
use Rattle.messages_take.proofs.FittingLaws.{fits-room, fits-yes, fits-no}
use Rattle.messages_take.proofs.take_tight.Goals as goal

pub take_placed-requires : goal.take_placed-requires
take_placed-requires c =
    let a = c.args in
    let p = c.requires in
    let room = fits-room a.count a.most (after a.bodies.now (rows_of row_wide a.count a.table.now) a.updates) a.table.now _ c.fits_with.ensures c.if-fits_with.true p.row_wide_in_bounds_2.0 in
    record { row_wide_in_bounds = (p.row_wide_in_bounds.0, p.row_wide_in_bounds.1); table_value = p.table_value; row_wide_in_bounds_2 = room }

pub returns-then-fits_with : goal.returns-then-fits_with
returns-then-fits_with c =
    let a = c.args in
    let took = c.take_placed in
    let t = fits-yes a.count a.most (after a.bodies.now (rows_of row_wide a.count a.table.now) a.updates) a.table.now _ c.fits_with.ensures c.if-fits_with.true took.result _ (took.ensures.value, took.ensures.table_after) in record { value = t.0; table_after = t.1 }

pub returns : goal.returns
returns c =
    let a = c.args in
    let t = fits-no a.count a.most (after a.bodies.now (rows_of row_wide a.count a.table.now) a.updates) a.table.now _ c.fits_with.ensures c.if-fits_with.false in record { value = t.0; table_after = t.1 }
