-- `read_parts` meets its contract. Assumes nothing.
use Rattle.boards_orders.proofs.OrderLaws.{parts-sender, parts-zero, parts-large, parts-formless, parts-good}
use Rattle.boards_orders.proofs.read_parts.Goals as goal

pub returns-then-sender-gt255 : goal.returns-then-sender-gt255
returns-then-sender-gt255 c = let n = c.number-sender in parts-sender c.args.line.now n.result n.ensures c.if-sender-gt255.true

pub returns-then-size-eq0 : goal.returns-then-size-eq0
returns-then-size-eq0 c = let n = c.number-sender in let m = c.number-size in parts-zero c.args.line.now n.result n.ensures m.result m.ensures c.if-sender-gt255.false c.if-size-eq0.true

pub returns-then-size-gt-LARGEST_PART : goal.returns-then-size-gt-LARGEST_PART
returns-then-size-gt-LARGEST_PART c = let n = c.number-sender in let m = c.number-size in parts-large c.args.line.now n.result n.ensures m.result m.ensures c.if-sender-gt255.false c.if-size-eq0.false c.if-size-gt-LARGEST_PART.true

pub returns-then-stated : goal.returns-then-stated
returns-then-stated c = let n = c.number-sender in let m = c.number-size in let f = c.form-stated in parts-formless c.args.line.now n.result n.ensures m.result f.result m.ensures f.ensures c.if-sender-gt255.false c.if-size-eq0.false c.if-size-gt-LARGEST_PART.false c.if-stated.true

pub returns : goal.returns
returns c = let n = c.number-sender in let m = c.number-size in let f = c.form-stated in parts-good c.args.line.now n.result n.ensures m.result f.result m.ensures f.ensures c.if-sender-gt255.false c.if-size-eq0.false c.if-size-gt-LARGEST_PART.false c.if-stated.false
