use Rattle.table.proofs.RowMoveLaws.{move-out}
use mathlib.Core.Path.{◌∙◌}
use Rattle.table.proofs.remove_row.Goals as goal

pub returns : goal.returns
returns c =
    let moved = c.shift_down in
    c.clear.ensures ∙ move-out c.args.count c.args.place c.args.table.now moved.new.elements c.requires.1 c.requires.0 moved.ensures
