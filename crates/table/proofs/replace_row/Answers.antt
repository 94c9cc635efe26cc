use mathlib.Core.Path.{◌∙◌}
use Rattle.passage.specs.Layout.{row_wide}
use Rattle.lists.proofs.RowWriteLaws.{store-replace}
use Rattle.table.proofs.replace_row.Goals as goal

pub returns : goal.returns
returns c =
    c.copy_to.ensures ∙ store-replace row_wide c.args.count c.args.place c.args.table.now c.requires.1 c.args.row.now c.requires.2 c.requires.0
