-- `read_order` meets its contract. Assumes nothing.
use mathlib.Core.Path.{sym, ◌∙◌}
use Rattle.boards_orders.proofs.OrderLaws.{order-silent, order-by}
use Rattle.boards_orders.proofs.read_order.Goals as goal

pub returns-then-is_silent : goal.returns-then-is_silent
returns-then-is_silent c = let a = c.args in let w = c.word-w in order-silent a.line.now w.result.now w.ensures a.day (sym c.is_silent.ensures ∙ c.if-is_silent.true)

pub returns : goal.returns
returns c = let a = c.args in let w = c.word-w in let k = c.command-c in order-by a.line.now w.result.now w.ensures k.result a.day c.read_command.result k.ensures (sym c.is_silent.ensures ∙ c.if-is_silent.false) c.read_command.ensures
