-- `number` meets its contract. Assumes nothing.
use Rattle.boards_orders.proofs.OrderLaws.{number-said}
use Rattle.boards_orders.proofs.number.Goals as goal

pub returns : goal.returns
returns c = let a = c.args in let w = c.word in let r = c.read_number in number-said a.k a.line.now w.result.now r.result c.unwrap_or.result w.ensures r.ensures c.unwrap_or.ensures
