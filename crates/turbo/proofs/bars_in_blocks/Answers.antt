use native.Mathlib.Omega.{arith}
use Rattle.turbo.proofs.BarLaws.{chunk-none, chunk-bars, chunk-few, rest-bars}
use Rattle.turbo.proofs.bars_in_blocks.Goals as goal

pub loop-i-init : goal.loop-i-init
loop-i-init g c = chunk-none g.row.N c.args.line.now

pub overflow_add-bars : goal.overflow_add-bars
overflow_add-bars g c =
    let l = c.loop-i in
    let few = chunk-few c.args.line.now _ g.row.N c.as_chunks.ensures.front l.i (omega (arith, c.as_chunks.ensures.front_len)) l.bars l.invariant in
    omega (arith, few)

pub loop-i-preserved : goal.loop-i-preserved
loop-i-preserved g c =
    let l = c.loop-i in
    chunk-bars c.args.line.now _ g.row.N c.as_chunks.ensures.front l.i (omega (arith, c.as_chunks.ensures.front_len)) l.bars l.invariant c.index-blocks-i.result c.index-blocks-i.result _ c.index-blocks-i.is c.bars_in.ensures

pub returns-clause-bars : goal.returns-clause-bars
returns-clause-bars g c = (rest-bars c.args.line.now g.row.N {i = c.loop-i.i} c.as_chunks.ensures.back (omega (arith, c.as_chunks.ensures.front_len)) c.loop-i.invariant).0

pub returns-clause-room : goal.returns-clause-room
returns-clause-room g c = (rest-bars c.args.line.now g.row.N {i = c.loop-i.i} c.as_chunks.ensures.back (omega (arith, c.as_chunks.ensures.front_len)) c.loop-i.invariant).1
