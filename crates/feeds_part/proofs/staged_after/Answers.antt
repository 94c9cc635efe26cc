use native.Mathlib.Omega.{arith}
use Rattle.reader_step.proofs.WidthLaws.{width-most, place-fits}
use Rattle.feeds_part.proofs.LineLaws.{stays-more, stays_same}
use Rattle.feeds_part.proofs.staged_after.Goals as goal

pub overflow_mul-end : goal.overflow_mul-end
overflow_mul-end c = omega (arith, place-fits c.args.after c.row_width.result c.requires.0 (rw c.row_width.ensures (width-most c.args.table)))

pub returns-then-before-after : goal.returns-then-before-after
returns-then-before-after c = let a = c.args in stays-more a.table a.before a.after a.staged a.room c.row_width.result c.row_width.ensures c.if-before-after.true

pub returns : goal.returns
returns c = let a = c.args in stays_same a.table a.before a.after a.staged a.room c.row_width.result c.row_width.ensures c.if-before-after.false
