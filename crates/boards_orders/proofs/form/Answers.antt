-- `form` meets its contract. Assumes nothing.
use Rattle.boards_orders.proofs.OrderLaws.{form-old, form-said}
use Rattle.boards_orders.proofs.form.Goals as goal

pub returns-then-word-eq0 : goal.returns-then-word-eq0
returns-then-word-eq0 c = let a = c.args in let w = c.word in form-old a.k a.line.now w.result.now w.ensures c.if-word-eq0.true

pub returns : goal.returns
returns c = let a = c.args in let w = c.word in form-said a.k a.line.now w.result.now w.ensures c.number.result c.number.ensures c.if-word-eq0.false
