-- `behind_plans` is safe, and ends since each turn leaves fewer bytes. Assumes nothing.
use native.Mathlib.Omega.{arith}
use Rattle.boards_listing.proofs.behind_plans.Goals as goal

pub loop-rest-init : goal.loop-rest-init
loop-rest-init c = omega arith

pub returns-then-rest-ne1 : goal.returns-then-rest-ne1
returns-then-rest-ne1 c = tt

pub loop-rest-smaller : goal.loop-rest-smaller
loop-rest-smaller c = omega arith

pub loop-rest-preserved : goal.loop-rest-preserved
loop-rest-preserved c = omega arith

pub returns : goal.returns
returns c = tt
