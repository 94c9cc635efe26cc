-- `told` meets its contract. Assumes nothing.
use Rattle.boards_deeds.proofs.DeedLaws.{told-accepted, told-refused}
use Rattle.boards_deeds.proofs.told.Goals as goal

pub returns-then-f-eq0 : goal.returns-then-f-eq0
returns-then-f-eq0 c = let a = c.args in let n = c.numbers-f in told-accepted a.o a.held n.result n.ensures c.if-f-eq0.true

pub returns : goal.returns
returns c = let a = c.args in let n = c.numbers-f in told-refused a.o a.held c.decline-n.result n.result n.ensures c.if-f-eq0.false c.decline-n.ensures
