-- `read_board` meets its contract. Assumes nothing.
use Rattle.boards_orders.proofs.OrderLaws.{board-dateless, board-timeless, board-none, board-large, board-good}
use Rattle.boards_orders.proofs.read_board.Goals as goal

pub returns-then-day : goal.returns-then-day
returns-then-day c = let d = c.date-day in board-dateless c.args.line.now d.result d.ensures c.if-day.true

pub returns-then-time : goal.returns-then-time
returns-then-time c = let d = c.date-day in let t = c.second-time in board-timeless c.args.line.now d.result d.ensures t.result t.ensures c.if-day.false c.if-time.true

pub returns-then-horizon : goal.returns-then-horizon
returns-then-horizon c = let d = c.date-day in let t = c.second-time in let n = c.number-horizon in board-none c.args.line.now d.result d.ensures t.result n.result t.ensures n.ensures c.if-day.false c.if-time.false c.if-horizon.true

pub returns-then-most-gt2048 : goal.returns-then-most-gt2048
returns-then-most-gt2048 c = let d = c.date-day in let t = c.second-time in let n = c.number-horizon in let m = c.places-most in board-large c.args.line.now d.result d.ensures t.result n.result m.result t.ensures n.ensures m.ensures c.if-day.false c.if-time.false c.if-horizon.false c.if-most-gt2048.true

pub returns : goal.returns
returns c = let d = c.date-day in let t = c.second-time in let n = c.number-horizon in let m = c.places-most in board-good c.args.line.now d.result d.ensures t.result n.result m.result t.ensures n.ensures m.ensures c.if-day.false c.if-time.false c.if-horizon.false c.if-most-gt2048.false
