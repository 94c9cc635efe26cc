use mathlib.Core.Path.{sym, ap, ◌∙◌}
use Rattle.lists.specs.Rows.{flat}
use Rattle.columns.specs.Cell.{width}
use Rattle.columns.specs.Tables.{planning_columns, calendar_columns, columns_in, row_width}
use Rattle.columns.specs.inner.Blank.{blank_row}
use Rattle.columns_cells.proofs.BlankLaws.{blank-message}
use Rattle.columns_cells.proofs.blank.Goals as goal

pub returns-in-Message : goal.returns-in-Message
returns-in-Message c = sym (ap blank_row c.in-Message.is ∙ blank-message c.in-Message.field-0)

pub returns-in-Planning : goal.returns-in-Planning
unfolding blank_row flat width row_width columns_in planning_columns
returns-in-Planning c = ap blank_row (sym c.in-Planning.is)

pub returns-in-Calendar : goal.returns-in-Calendar
unfolding blank_row flat width row_width columns_in calendar_columns
returns-in-Calendar c = ap blank_row (sym c.in-Calendar.is)
