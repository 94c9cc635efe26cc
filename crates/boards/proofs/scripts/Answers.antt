-- `scripts` is safe and ends. Assumes nothing.
use native.Mathlib.Omega.{arith}
use Rattle.boards.proofs.scripts.Goals as goal

pub nothing-h-requires : goal.nothing-h-requires
nothing-h-requires c = tt

pub count_of-count-requires : goal.count_of-count-requires
count_of-count-requires c = tt

pub loop-i-init : goal.loop-i-init
loop-i-init c = omega arith

pub overflow_add-i : goal.overflow_add-i
overflow_add-i c = omega arith

pub name_of-n-requires : goal.name_of-n-requires
name_of-n-requires c = tt

pub front-requires : goal.front-requires
front-requires c = tt

pub script_named-h-requires : goal.script_named-h-requires
script_named-h-requires c = tt

pub loop-i-smaller : goal.loop-i-smaller
loop-i-smaller c = omega arith

pub loop-i-preserved : goal.loop-i-preserved
loop-i-preserved c = omega arith

pub returns : goal.returns
returns c = tt
