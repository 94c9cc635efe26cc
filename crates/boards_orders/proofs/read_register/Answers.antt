-- `read_register` meets its contract. Assumes nothing.
use Rattle.boards_orders.proofs.OrderLaws.{register-zero, register-large, register-long, register-good}
use Rattle.boards_orders.proofs.read_register.Goals as goal

pub returns-then-sender-eq0 : goal.returns-then-sender-eq0
returns-then-sender-eq0 c = let n = c.number-sender in register-zero c.args.line.now n.result n.ensures c.if-sender-eq0.true

pub returns-then-sender-gt255 : goal.returns-then-sender-gt255
returns-then-sender-gt255 c = let n = c.number-sender in register-large c.args.line.now n.result n.ensures c.if-sender-eq0.false c.if-sender-gt255.true

pub returns-then-word-gt-TEXT_WIDE : goal.returns-then-word-gt-TEXT_WIDE
returns-then-word-gt-TEXT_WIDE c = let n = c.number-sender in let w = c.word in register-long c.args.line.now n.result n.ensures w.result.now w.ensures c.if-sender-eq0.false c.if-sender-gt255.false c.if-word-gt-TEXT_WIDE.true

pub returns : goal.returns
returns c = let n = c.number-sender in let w = c.word in register-good c.args.line.now n.result n.ensures w.result.now w.ensures c.if-sender-eq0.false c.if-sender-gt255.false c.if-word-gt-TEXT_WIDE.false
