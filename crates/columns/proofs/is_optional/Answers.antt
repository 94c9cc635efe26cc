use Rattle.columns.specs.Tables.{message_columns, planning_columns, calendar_columns, columns_in}
use Rattle.columns.proofs.LayoutLaws.{told_below}
use Rattle.columns.proofs.PlaceLaws.{message-optional, planning-optional, calendar-optional}
use Rattle.columns.proofs.is_optional.Goals as goal

pub returns-in-Message : goal.returns-in-Message
unfolding columns_in message_columns
returns-in-Message c = rw c.in-Message.is (message-optional c.in-Message.field-0 c.args.index (told_below c.args.index c.in-Message.is c.requires))

pub returns-in-Planning : goal.returns-in-Planning
unfolding columns_in planning_columns
returns-in-Planning c = rw c.in-Planning.is (planning-optional c.args.index (told_below c.args.index c.in-Planning.is c.requires))

pub returns-in-Calendar : goal.returns-in-Calendar
unfolding columns_in calendar_columns
returns-in-Calendar c = rw c.in-Calendar.is (calendar-optional c.args.index (told_below c.args.index c.in-Calendar.is c.requires))
