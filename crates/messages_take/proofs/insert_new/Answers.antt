use mathlib.Core.Path.{refl}
use lib.ListN.{replicate}
use Rattle.passage.specs.Layout.{row_wide}
use Rattle.messages_take.proofs.StepLaws.{new-insert}
use Rattle.messages_take.proofs.insert_new.Goals as goal

pub returns : goal.returns
returns c =
    let a = c.args in
    let begun = c.begin_row in
    let applied = c.apply_row in
    new-insert a.table.now _ a.bodies.now (replicate row_wide 0) begun.new.row applied.new.row a.count a.place a.from
    c.requires.2 refl begun.ensures applied.ensures c.insert_row.ensures
