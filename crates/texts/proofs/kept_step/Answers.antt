use Rattle.lists.proofs.LogicLaws.{in-range, below-range, above-range}
use Rattle.texts.proofs.kept_step.Goals as goal

pub returns-then-b-lt32 : goal.returns-then-b-lt32
returns-then-b-lt32 c = rw (below-range 32 126 _ c.if-b-lt32.true)

pub returns-then-b-gt126 : goal.returns-then-b-gt126
returns-then-b-gt126 c = rw (above-range 32 126 _ c.if-b-gt126.true)

pub returns : goal.returns
returns c = rw (in-range 32 126 _ c.if-b-lt32.false c.if-b-gt126.false)
