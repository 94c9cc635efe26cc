-- `falls_short` meets its contract. Assumes nothing.
use lib.ListN.{length}
use Rattle.feeds_end.proofs.RowsLaws.{short-staged, short-here}
use Rattle.feeds_end.proofs.falls_short.Goals as goal

pub returns-then-staged-rows : goal.returns-then-staged-rows
returns-then-staged-rows c = let a = c.args in short-staged (length a.staging.now) a.staged a.rows c.if-staged-rows.true

pub returns : goal.returns
returns c = let a = c.args in short-here (length a.staging.now) a.staged a.rows c.if-staged-rows.false
