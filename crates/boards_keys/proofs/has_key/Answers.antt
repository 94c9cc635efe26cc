-- `has_key` is safe and ends. Assumes nothing.
use native.Mathlib.Omega.{arith}
use Rattle.boards_keys.proofs.has_key.Goals as goal

pub loop-rest-init : goal.loop-rest-init
loop-rest-init c = omega arith

pub front-requires : goal.front-requires
front-requires c = tt

pub same_bytes-requires : goal.same_bytes-requires
same_bytes-requires c = tt

pub returns-then-same_bytes : goal.returns-then-same_bytes
returns-then-same_bytes c = tt

pub loop-rest-smaller : goal.loop-rest-smaller
loop-rest-smaller c = omega arith

pub loop-rest-preserved : goal.loop-rest-preserved
loop-rest-preserved c = omega arith

pub returns : goal.returns
returns c = tt
