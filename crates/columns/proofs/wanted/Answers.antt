use Rattle.columns.specs.Tables.{message_columns, planning_columns, calendar_columns, columns_in}
use Rattle.columns.proofs.wanted.Goals as goal

pub returns-in-Message : goal.returns-in-Message
unfolding columns_in message_columns
returns-in-Message c = rw c.in-Message.is

pub returns-in-Planning : goal.returns-in-Planning
unfolding columns_in planning_columns
returns-in-Planning c = rw c.in-Planning.is

pub returns-in-Calendar : goal.returns-in-Calendar
unfolding columns_in calendar_columns
returns-in-Calendar c = rw c.in-Calendar.is
