use Rattle.columns.specs.Tables.{message_columns, planning_columns, calendar_columns, columns_in}
use Rattle.columns.proofs.LayoutLaws.{told_below}
use Rattle.columns.proofs.kind_of.Goals as goal

pub message_kind-requires : goal.message_kind-requires
unfolding columns_in message_columns
message_kind-requires c = told_below c.args.index c.in-Message.is c.requires

pub planning_kind-requires : goal.planning_kind-requires
unfolding columns_in planning_columns
planning_kind-requires c = told_below c.args.index c.in-Planning.is c.requires

pub calendar_kind-requires : goal.calendar_kind-requires
unfolding columns_in calendar_columns
calendar_kind-requires c = told_below c.args.index c.in-Calendar.is c.requires

pub returns-in-Message : goal.returns-in-Message
returns-in-Message c = rw c.in-Message.is c.message_kind.ensures

pub returns-in-Planning : goal.returns-in-Planning
returns-in-Planning c = rw c.in-Planning.is c.planning_kind.ensures

pub returns-in-Calendar : goal.returns-in-Calendar
returns-in-Calendar c = rw c.in-Calendar.is c.calendar_kind.ensures
