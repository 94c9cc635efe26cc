-- `read_withdraw` meets its contract. Assumes nothing.
use Rattle.boards_orders.proofs.OrderLaws.{withdraw-none, withdraw-large, withdraw-good}
use Rattle.boards_orders.proofs.read_withdraw.Goals as goal

pub returns-then-n : goal.returns-then-n
returns-then-n c = let n = c.number-n in withdraw-none c.args.line.now n.result n.ensures c.if-n.true

pub returns-then-sender-gt255 : goal.returns-then-sender-gt255
returns-then-sender-gt255 c = let n = c.number-n in let m = c.number-sender in withdraw-large c.args.line.now n.result n.ensures m.result m.ensures c.if-n.false c.if-sender-gt255.true

pub returns : goal.returns
returns c = let n = c.number-n in let m = c.number-sender in withdraw-good c.args.line.now n.result n.ensures m.result m.ensures c.if-n.false c.if-sender-gt255.false
