-- `feed_all` meets its contract. Assumes nothing.
use mathlib.Core.Path.{refl}
use native.Mathlib.Omega.{arith}
use Rattle.feeds_whole.specs.Parts.{lent}
use Rattle.boards_messages.proofs.CutLaws.{fed-turn, fed-done}
use Rattle.boards_messages.proofs.feed_all.Goals as goal

pub loop-rest-init : goal.loop-rest-init
loop-rest-init c = refl

pub overflow_sub-size : goal.overflow_sub-size
overflow_sub-size c = omega (arith, c.requires)

pub loop-rest-smaller : goal.loop-rest-smaller
loop-rest-smaller c = omega (arith, c.after-next.ensures.shorter, c.loop-rest-test.true)

pub loop-rest-preserved : goal.loop-rest-preserved
loop-rest-preserved c =
    let a = c.args in
    let k = c.loop-rest in
    let g = c.feed in
    let f = c.front-bytes in
    fed-turn a.register.now a.size k.rest.now f.result.now c.after-next.result.now k.kept k.line k.staging g.new.kept g.new.line g.new.staging g.result _
    c.requires c.loop-rest-test.true f.ensures c.after-next.ensures.is g.ensures k.invariant

pub returns : goal.returns
returns c =
    let a = c.args in
    let k = c.loop-rest in
    fed-done a.register.now a.size k.rest.now (lent k.kept k.line k.staging) _ c.loop-rest-test.false k.invariant
