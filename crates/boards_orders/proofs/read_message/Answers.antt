-- `read_message` meets its contract. Assumes nothing.
use Rattle.boards_orders.proofs.OrderLaws.{message-large, message-formless, message-good}
use Rattle.boards_orders.proofs.read_message.Goals as goal

pub returns-then-sender-gt255 : goal.returns-then-sender-gt255
returns-then-sender-gt255 c = let n = c.number-sender in message-large c.args.line.now n.result n.ensures c.if-sender-gt255.true

pub returns-then-stated : goal.returns-then-stated
returns-then-stated c = let n = c.number-sender in let f = c.form-stated in message-formless c.args.line.now n.result n.ensures f.result f.ensures c.if-sender-gt255.false c.if-stated.true

pub returns : goal.returns
returns c = let n = c.number-sender in let f = c.form-stated in message-good c.args.line.now n.result n.ensures f.result f.ensures c.if-sender-gt255.false c.if-stated.false
