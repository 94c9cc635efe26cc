-- `tell_form` hands on the names of its table's columns. Assumes nothing.
use mathlib.Core.Path.{sym, ap}
use Rattle.turbo.specs.Split.{fields}
use Rattle.columns.specs.Tables.{names, columns_in, planning_columns, calendar_columns}
use Rattle.boards_reasons.proofs.tell_form.Goals as goal

pub tell_among-requires : goal.tell_among-requires
unfolding fields names columns_in planning_columns
tell_among-requires c = ap names (sym c.in-Planning.is)

pub tell_among-requires-in-Calendar : goal.tell_among-requires-in-Calendar
unfolding fields names columns_in calendar_columns
tell_among-requires-in-Calendar c = ap names (sym c.in-Calendar.is)
