-- `script::line` meets its contract. Assumes nothing.
use Rattle.boards_orders.specs.Orders.{order_in}
use Rattle.boards.proofs.LeavesLaws.{leaves-line}
use Rattle.boards.proofs.script.line.Goals as goal

pub returns : goal.returns
returns c = let a = c.args in let o = c.read_order-o in leaves-line o.result (order_in a.held.day a.line.now) a.line.now a.held _ a.register.now a.book.now a.table.now _ o.ensures c.next-n.ensures c.perform.ensures
