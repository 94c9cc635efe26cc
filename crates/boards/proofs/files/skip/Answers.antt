-- `files::skip` is safe and ends. Assumes nothing.
use native.Mathlib.Omega.{arith}
use Rattle.boards.proofs.files.skip.Goals as goal

pub loop-left-init : goal.loop-left-init
loop-left-init c = omega arith

pub overflow_sub-left : goal.overflow_sub-left
overflow_sub-left c = omega arith

pub next_byte-requires : goal.next_byte-requires
next_byte-requires c = tt

pub returns-then-b-eq10 : goal.returns-then-b-eq10
returns-then-b-eq10 c = tt

pub loop-left-smaller : goal.loop-left-smaller
loop-left-smaller c = omega arith

pub loop-left-preserved : goal.loop-left-preserved
loop-left-preserved c = omega arith

pub returns-in-End : goal.returns-in-End
returns-in-End c = tt

pub returns-in-Failed : goal.returns-in-Failed
returns-in-Failed c = tt

pub returns : goal.returns
returns c = tt
