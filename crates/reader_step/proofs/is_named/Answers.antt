use mathlib.Core.Path.{◌∙◌}
use Rattle.columns.specs.Tables.{table_name}
use Rattle.reader_step.proofs.is_named.Goals as goal

pub returns-in-Message : goal.returns-in-Message
unfolding table_name
returns-in-Message c = c.same_bytes.ensures ∙ rw c.in-Message.is

pub returns-in-Planning : goal.returns-in-Planning
unfolding table_name
returns-in-Planning c = c.same_bytes-in-Planning.ensures ∙ rw c.in-Planning.is

pub returns-in-Calendar : goal.returns-in-Calendar
unfolding table_name
returns-in-Calendar c = c.same_bytes-in-Calendar.ensures ∙ rw c.in-Calendar.is
