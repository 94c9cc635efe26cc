-- `is_silent` meets its contract. Assumes nothing.
use Rattle.boards_orders.proofs.OrderLaws.{silent-none, silent-by}
use Rattle.boards_orders.proofs.is_silent.Goals as goal

pub returns-then-w-eq0 : goal.returns-then-w-eq0
returns-then-w-eq0 c = silent-none c.args.w.now c.if-w-eq0.true

pub returns : goal.returns
returns c = silent-by c.args.w.now c.if-w-eq0.false
