use mathlib.Core.Path.{sym, ap, ◌∙◌}
use Rattle.columns.specs.Cell.{width}
use Rattle.columns.specs.Tables.{planning_columns, calendar_columns, columns_in, row_width}
use Rattle.columns.proofs.FormLaws.{message-wide}
use Rattle.columns.proofs.row_width.Goals as goal

pub returns-in-Message : goal.returns-in-Message
returns-in-Message c = sym (ap row_width c.in-Message.is ∙ message-wide c.in-Message.field-0)

pub returns-in-Planning : goal.returns-in-Planning
unfolding row_width columns_in planning_columns width
returns-in-Planning c = rw c.in-Planning.is

pub returns-in-Calendar : goal.returns-in-Calendar
unfolding row_width columns_in calendar_columns width
returns-in-Calendar c = rw c.in-Calendar.is
