use Rattle.table.proofs.RowMoveLaws.{move_in}
use mathlib.Core.Path.{◌∙◌}
use native.Mathlib.Omega.{arith}
use Rattle.table.proofs.insert_row.Goals as goal

pub returns : goal.returns
returns c =
    let moved = c.shift_up in
    c.copy_to.ensures
    ∙ move_in c.args.count c.args.place c.args.table.now moved.new.elements (omega arith) c.args.row.now c.requires.2 c.requires.0 moved.ensures
