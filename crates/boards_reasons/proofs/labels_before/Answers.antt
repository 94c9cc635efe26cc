-- `labels_before` is safe and ends. Assumes nothing.
use native.Mathlib.Omega.{arith}
use Rattle.boards_reasons.proofs.labels_before.Goals as goal

pub loop-i-init : goal.loop-i-init
loop-i-init c = omega arith

pub first_line-requires : goal.first_line-requires
first_line-requires c = tt

pub is_labels-requires : goal.is_labels-requires
is_labels-requires c = tt

pub rest_after_line-next-requires : goal.rest_after_line-next-requires
rest_after_line-next-requires c = tt

pub overflow_add-i : goal.overflow_add-i
overflow_add-i c = omega arith

pub loop-i-smaller : goal.loop-i-smaller
loop-i-smaller c = omega arith

pub loop-i-preserved : goal.loop-i-preserved
loop-i-preserved c = omega arith

pub returns : goal.returns
returns c = tt
