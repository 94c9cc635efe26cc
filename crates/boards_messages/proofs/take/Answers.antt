-- `take` meets its contract. Assumes nothing.
use native.Mathlib.Omega.{arith}
use Rattle.boards_messages.proofs.take.Goals as goal

pub returns-then-size-eq0 : goal.returns-then-size-eq0
returns-then-size-eq0 c = c.message.ensures.lent

pub in_parts-requires : goal.in_parts-requires
in_parts-requires c = omega (arith, c.if-size-eq0.false)

pub returns : goal.returns
returns c = c.in_parts.ensures
