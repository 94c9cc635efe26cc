-- `line_at` is safe and ends. Assumes nothing.
use native.Mathlib.Omega.{arith}
use Rattle.boards_reasons.proofs.line_at.Goals as goal

pub loop-left-init : goal.loop-left-init
loop-left-init c = omega arith

pub rest_after_line-next-requires : goal.rest_after_line-next-requires
rest_after_line-next-requires c = tt

pub overflow_sub-left : goal.overflow_sub-left
overflow_sub-left c = omega arith

pub loop-left-smaller : goal.loop-left-smaller
loop-left-smaller c = omega arith

pub loop-left-preserved : goal.loop-left-preserved
loop-left-preserved c = omega arith

pub first_line-requires : goal.first_line-requires
first_line-requires c = tt

pub returns : goal.returns
returns c = tt
