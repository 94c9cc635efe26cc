-- `lines` is safe and ends. Assumes nothing.
use native.Mathlib.Omega.{arith}
use Rattle.boards.proofs.lines.Goals as goal

pub loop-left-init : goal.loop-left-init
loop-left-init c = omega arith

pub overflow_sub-left : goal.overflow_sub-left
overflow_sub-left c = omega arith

pub turn-t-requires : goal.turn-t-requires
turn-t-requires c = tt

pub loop-left-smaller : goal.loop-left-smaller
loop-left-smaller c = omega arith

pub loop-left-preserved : goal.loop-left-preserved
loop-left-preserved c = omega arith

pub returns-else-t : goal.returns-else-t
returns-else-t c = tt

pub returns : goal.returns
returns c = tt
