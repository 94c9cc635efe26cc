use Prim.Native.Nat.{◌-◌}
use native.Mathlib.Omega.{arith}
use mathlib.Core.Path.{refl, ◌∙◌}
use Rattle.plan.proofs.PlanLaws.{plan-start, plan-turn, plan-full, plan-end}
use Rattle.plan.proofs.join.Goals as goal

pub loop-i-init : goal.loop-i-init
loop-i-init c =
    let a = c.args in
    (omega arith, plan-start a.passes.now a.validities.now a.times a.days a.most a.out.now)

pub returns-then-most-k : goal.returns-then-most-k
returns-then-most-k c =
    let a = c.args in
    let l = c.loop-i in
    let j = c.join_one-k in
    let t = plan-full a.passes.now a.validities.now a.times a.days a.most a.out.now c.requires.0 c.requires.1 l.out l.k l.i l.invariant.1 c.loop-i-test.true j.result j.new.out j.ensures.count j.ensures.bodies c.if-most-k.true in record { count = t.0; bodies = t.1 }

pub loop-i-preserved : goal.loop-i-preserved
loop-i-preserved c =
    let a = c.args in
    let l = c.loop-i in
    let j = c.join_one-k in
    let g =
    plan-turn a.passes.now a.validities.now a.times a.days a.most a.out.now c.requires.0 c.requires.1 l.out l.k l.i l.invariant.1 c.loop-i-test.true j.result j.new.out j.ensures.count j.ensures.bodies c.if-most-k.false in
    (g.few, g)

pub returns : goal.returns
returns c =
    let a = c.args in
    let l = c.loop-i in
    let t = plan-end a.passes.now a.validities.now a.times a.days a.most a.out.now l.out l.k l.i l.invariant.1 c.loop-i-test.false in record { count = t.0; bodies = t.1 }
