-- `first_missing` is safe and ends. Assumes nothing.
use native.Mathlib.Omega.{arith}
use Rattle.boards_reasons.proofs.first_missing.Goals as goal

pub count_fields-n-requires : goal.count_fields-n-requires
count_fields-n-requires c = tt

pub count_fields-count-requires : goal.count_fields-count-requires
count_fields-count-requires c = tt

pub loop-i-init : goal.loop-i-init
loop-i-init c = omega arith

pub field_of-requires : goal.field_of-requires
field_of-requires c = tt

pub column_of-requires : goal.column_of-requires
column_of-requires c = tt

pub returns-then-column_of-count : goal.returns-then-column_of-count
returns-then-column_of-count c = tt

pub overflow_add-i : goal.overflow_add-i
overflow_add-i c = omega arith

pub loop-i-smaller : goal.loop-i-smaller
loop-i-smaller c = omega arith

pub loop-i-preserved : goal.loop-i-preserved
loop-i-preserved c = omega arith

pub returns : goal.returns
returns c = tt
