use Prim.Native.Nat.{◌-◌}
use native.Mathlib.Omega.{arith}
use Rattle.plan.specs.inner.Look.{shared_wide}
use Rattle.plan.proofs.TextLaws.{differ-start, differ-turn, differ-end}
use Rattle.plan.proofs.begins_with.Goals as goal

pub loop-i-init : goal.loop-i-init
loop-i-init c = let a = c.args in differ-start a.validity a.shared.now a.validities.now

pub loop-i-preserved : goal.loop-i-preserved
loop-i-preserved c =
    let l = c.loop-i in
    let a = c.args in
    differ-turn a.validity a.shared.now a.validities.now l.i l.any l.invariant (omega arith) (omega arith)

pub returns : goal.returns
returns c =
    let l = c.loop-i in
    let a = c.args in
    differ-end a.validity a.shared.now a.validities.now l.i shared_wide l.any l.invariant (omega arith) c.requires.0
