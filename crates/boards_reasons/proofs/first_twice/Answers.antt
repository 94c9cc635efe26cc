-- `first_twice` is safe and ends. Assumes nothing.
use native.Mathlib.Omega.{arith}
use Rattle.boards_reasons.proofs.first_twice.Goals as goal

pub count_fields-n-requires : goal.count_fields-n-requires
count_fields-n-requires c = tt

pub loop-i-init : goal.loop-i-init
loop-i-init c = omega arith

pub field_of-requires : goal.field_of-requires
field_of-requires c = tt

pub stands_twice-requires : goal.stands_twice-requires
stands_twice-requires c = tt

pub returns-then-stands_twice : goal.returns-then-stands_twice
returns-then-stands_twice c = tt

pub overflow_add-i : goal.overflow_add-i
overflow_add-i c = omega arith

pub loop-i-smaller : goal.loop-i-smaller
loop-i-smaller c = omega arith

pub loop-i-preserved : goal.loop-i-preserved
loop-i-preserved c = omega arith

pub returns : goal.returns
returns c = tt
