use mathlib.Core.Path.{◌∙◌}
use Rattle.columns.specs.Tables.{message_columns, planning_columns, calendar_columns, columns_in}
use Rattle.columns.proofs.LayoutLaws.{told_below}
use Rattle.columns.proofs.PlaceLaws.{message-offset}
use Rattle.columns.proofs.offset_of.Goals as goal

pub message_offset-requires : goal.message_offset-requires
unfolding columns_in message_columns
message_offset-requires c = told_below c.args.index c.in-Message.is c.requires

pub planning_offset-requires : goal.planning_offset-requires
unfolding columns_in planning_columns
planning_offset-requires c = told_below c.args.index c.in-Planning.is c.requires

pub calendar_offset-requires : goal.calendar_offset-requires
unfolding columns_in calendar_columns
calendar_offset-requires c = told_below c.args.index c.in-Calendar.is c.requires

pub returns-in-Message : goal.returns-in-Message
returns-in-Message c = rw c.in-Message.is (c.message_offset.ensures ∙ message-offset c.in-Message.field-0 c.args.index)

pub returns-in-Planning : goal.returns-in-Planning
returns-in-Planning c = rw c.in-Planning.is c.planning_offset.ensures

pub returns-in-Calendar : goal.returns-in-Calendar
returns-in-Calendar c = rw c.in-Calendar.is c.calendar_offset.ensures
