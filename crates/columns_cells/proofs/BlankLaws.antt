-- The row of a message before its cells are written, in either form. Assumes nothing.
use mathlib.Core.Path.{◌≡◌, refl}
use lib.ListN.{replicate, set}
use Rattle.lists.specs.Rows.{flat}
use Rattle.passage.specs.Layout.{show_cancelled_at, flexible_at, monitored_at, kept}
use Rattle.columns.specs.declared.Form.{Form}
use Rattle.columns.specs.declared.Form.TheVariants.{Old, New}
use Rattle.columns.specs.declared.Table.TheVariants.{Message}
use Rattle.columns.specs.Cell.{width}
use Rattle.columns.specs.Tables.{message_columns, columns_in, row_width}
use Rattle.columns.specs.inner.Blank.{blank_row}

pub blank-message : (f : Form) → blank_row (Message f) ≡ set (set (set (replicate 80 0) show_cancelled_at kept) flexible_at kept) monitored_at kept
unfolding blank_row flat width row_width columns_in message_columns
blank-message Old = refl
blank-message New = refl
