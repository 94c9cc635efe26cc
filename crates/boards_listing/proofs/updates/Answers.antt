-- `updates` is safe, and ends since each turn leaves fewer bytes. Assumes nothing.
use native.Mathlib.Omega.{arith}
use Rattle.boards_listing.proofs.updates.Goals as goal

pub loop-rest-init : goal.loop-rest-init
loop-rest-init c = omega arith

pub overflow_add-rows : goal.overflow_add-rows
overflow_add-rows c = omega arith

pub number_of-number-requires : goal.number_of-number-requires
number_of-number-requires c = tt

pub number_of-requires : goal.number_of-requires
number_of-requires c = tt

pub message-requires : goal.message-requires
message-requires c = tt

pub loop-rest-smaller-then-number_of-number : goal.loop-rest-smaller-then-number_of-number
loop-rest-smaller-then-number_of-number c = omega arith

pub loop-rest-preserved-then-number_of-number : goal.loop-rest-preserved-then-number_of-number
loop-rest-preserved-then-number_of-number c = omega arith

pub loop-rest-smaller : goal.loop-rest-smaller
loop-rest-smaller c = omega arith

pub loop-rest-preserved : goal.loop-rest-preserved
loop-rest-preserved c = omega arith

pub returns : goal.returns
returns c = tt
