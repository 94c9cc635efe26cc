use mathlib.Core.Path.{sym, ap, ◌∙◌}
use lib.Seq.{take_all}
use Rattle.lists.specs.Part.{over}
use Rattle.lists.proofs.OverLaws.{over-nil}
use Rattle.lists.proofs.TurnLaws.{element-turn}
use Rattle.lists.proofs.copy_to.Goals as goal

pub loop-i-init : goal.loop-i-init
loop-i-init g c = sym (over-nil _ _)

pub loop-i-preserved : goal.loop-i-preserved
loop-i-preserved g c =
    let l = c.loop-i in
    let a = c.args in
    element-turn a.at l.i c.index-source-i.result a.source.now a.elements.now l.elements l.invariant c.loop-i-test.true c.index-source-i.is

pub returns : goal.returns
returns g c =
    let a = c.args in
    c.loop-i.invariant ∙ ap (λ b. over a.at b a.elements.now) (take_all _ a.source.now c.loop-i-test.false)
