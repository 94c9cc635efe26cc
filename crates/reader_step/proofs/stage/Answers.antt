use native.Mathlib.Omega.{arith}
use mathlib.Core.Path.{sym, ◌∙◌}
use lib.Seq.{length-take-le}
use Rattle.reader_step.proofs.WidthLaws.{width-most, place-fits, stage-fits, stage-full}
use Rattle.reader_step.proofs.stage.Goals as goal

pub overflow_mul-a : goal.overflow_mul-a
overflow_mul-a c = omega (arith, place-fits c.args.n c.row_width-w.result c.requires.0 (rw c.row_width-w.ensures (width-most c.args.table)))

pub overflow_add-a : goal.overflow_add-a
overflow_add-a c = omega (arith, place-fits c.args.n c.row_width-w.result c.requires.0 (rw c.row_width-w.ensures (width-most c.args.table)), c.row_width-w.ensures, width-most c.args.table)

pub slice_bounds-copy_to-end : goal.slice_bounds-copy_to-end
slice_bounds-copy_to-end c = sym (length-take-le _ c.args.row.now (omega (arith, c.requires.1, c.row_width-w.ensures, width-most c.args.table)))

pub copy_to-requires : goal.copy_to-requires
copy_to-requires c = let w = c.row_width-w in omega (arith, length-take-le w.result c.args.row.now (omega (arith, c.requires.1, w.ensures, width-most c.args.table)), c.if-a-w.true)

pub returns-then-a-w : goal.returns-then-a-w
returns-then-a-w c = let w = c.row_width-w in c.copy_to.ensures ∙ stage-fits c.args.table c.args.n w.result c.args.row.now c.args.staging.now w.ensures c.if-a-w.true

pub returns-else-a-w : goal.returns-else-a-w
returns-else-a-w c = let w = c.row_width-w in stage-full c.args.table c.args.n w.result c.args.row.now c.args.staging.now w.ensures c.if-a-w.false
