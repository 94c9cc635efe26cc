-- `places` meets its contract. Assumes nothing.
use Rattle.boards_orders.proofs.OrderLaws.{places-all, places-said}
use Rattle.boards_orders.proofs.places.Goals as goal

pub returns-then-word-eq0 : goal.returns-then-word-eq0
returns-then-word-eq0 c = let w = c.word in places-all c.args.line.now w.result.now w.ensures c.if-word-eq0.true

pub returns : goal.returns
returns c = let w = c.word in places-said c.args.line.now w.result.now w.ensures c.number.result c.number.ensures c.if-word-eq0.false
