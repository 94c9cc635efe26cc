-- `from_twice` is safe and ends. Assumes nothing.
use native.Mathlib.Omega.{arith}
use Rattle.boards_keys.proofs.from_twice.Goals as goal

pub loop-rest-init : goal.loop-rest-init
loop-rest-init c = omega arith

pub front-requires : goal.front-requires
front-requires c = tt

pub has_key-requires : goal.has_key-requires
has_key-requires c = tt

pub returns-then-has_key : goal.returns-then-has_key
returns-then-has_key c = tt

pub loop-rest-smaller : goal.loop-rest-smaller
loop-rest-smaller c = omega arith

pub loop-rest-preserved : goal.loop-rest-preserved
loop-rest-preserved c = omega arith

pub returns : goal.returns
returns c = tt
