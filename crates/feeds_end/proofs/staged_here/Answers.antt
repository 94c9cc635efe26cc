-- `staged_here` meets its contract. Assumes nothing.
use native.Mathlib.Omega.{arith}
use Rattle.feeds_end.proofs.RowsLaws.{least-all, least-cut}
use Rattle.feeds_end.proofs.staged_here.Goals as goal

pub returns-then-staged-room : goal.returns-then-staged-room
returns-then-staged-room c = let h = c.if-staged-room.true in record { is = least-all _ _ h; within = omega arith }

pub returns : goal.returns
returns c = record { is = least-cut _ _ c.if-staged-room.false; within = omega arith }
