-- `has_words` meets its contract. Assumes nothing.
use Rattle.boards_orders.proofs.OrderLaws.{words-few, words-by}
use Rattle.boards_orders.proofs.has_words.Goals as goal

pub returns-then-word-eq0 : goal.returns-then-word-eq0
returns-then-word-eq0 c = let a = c.args in words-few a.k a.n a.line.now c.word.result.now c.word.ensures c.if-word-eq0.true

pub returns : goal.returns
returns c = let a = c.args in words-by a.k a.n a.line.now c.word.result.now c.word.ensures c.word-2.result.now c.word-2.ensures c.if-word-eq0.false
