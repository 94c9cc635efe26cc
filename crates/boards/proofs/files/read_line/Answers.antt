-- `files::read_line` is safe and ends. Assumes nothing.
use native.Mathlib.Omega.{arith}
use lib.ListN.{length-set}
use Rattle.boards.proofs.files.read_line.Goals as goal

pub loop-n-init : goal.loop-n-init
loop-n-init c = omega arith

pub next_byte-requires : goal.next_byte-requires
next_byte-requires c = tt

pub returns-then-b-eq10 : goal.returns-then-b-eq10
returns-then-b-eq10 c = tt

pub overflow_add-n : goal.overflow_add-n
overflow_add-n c = omega arith

pub loop-n-smaller : goal.loop-n-smaller
loop-n-smaller c = omega arith

pub loop-n-preserved : goal.loop-n-preserved
loop-n-preserved c = (omega arith, simp length-set c.loop-n.invariant.1)

pub last-requires : goal.last-requires
last-requires c = tt

pub returns-in-End : goal.returns-in-End
returns-in-End c = tt

pub returns-in-Failed : goal.returns-in-Failed
returns-in-Failed c = tt

pub skip-requires : goal.skip-requires
skip-requires c = tt

pub returns : goal.returns
returns c = tt
