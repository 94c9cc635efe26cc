-- `read_command` meets its contract. Assumes nothing.
use mathlib.Core.Path.{sym, ◌∙◌}
use Rattle.boards_orders.proofs.OrderLaws.{command-open, command-closed, command-other, command-words}
use Rattle.boards_orders.proofs.read_command.Goals as goal

pub returns-then-day : goal.returns-then-day
returns-then-day c = let a = c.args in command-open a.c a.line.now a.day c.read_by.result (sym c.is_whole.ensures ∙ c.if-is_whole.true) c.if-day.true c.read_by.ensures

pub returns-then-is_of_day : goal.returns-then-is_of_day
returns-then-is_of_day c = let a = c.args in command-closed a.c a.line.now a.day (sym c.is_whole.ensures ∙ c.if-is_whole.true) c.if-day.false (sym c.is_of_day.ensures ∙ c.if-is_of_day.true)

pub returns-then-is_whole : goal.returns-then-is_whole
returns-then-is_whole c = let a = c.args in command-other a.c a.line.now a.day c.read_by-then-is_whole.result (sym c.is_whole.ensures ∙ c.if-is_whole.true) c.if-day.false (sym c.is_of_day.ensures ∙ c.if-is_of_day.false) c.read_by-then-is_whole.ensures

pub returns : goal.returns
returns c = let a = c.args in command-words a.c a.line.now a.day c.wants.result (sym c.is_whole.ensures ∙ c.if-is_whole.false) c.wants.ensures
