use Prim.Native.Nat.{◌-◌}
use mathlib.Core.Path.{◌∙◌}
use Rattle.register.proofs.may_send.Goals as goal

pub returns-in-Message : goal.returns-in-Message
returns-in-Message c = c.registered.ensures ∙ rw c.in-Message.is

pub returns-in-Planning : goal.returns-in-Planning
returns-in-Planning c = rw c.in-Planning.is

pub returns-in-Calendar : goal.returns-in-Calendar
returns-in-Calendar c = rw c.in-Calendar.is
