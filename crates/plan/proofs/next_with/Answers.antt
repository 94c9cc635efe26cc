use Prim.Native.Nat.{◌-◌}
use native.Mathlib.Omega.{arith}
use mathlib.Core.Path.{refl, sym, ◌∙◌}
use Rattle.plan.proofs.FirstLaws.{first-here, first-later, first-none}
use Rattle.plan.proofs.next_with.Goals as goal

pub loop-i-init : goal.loop-i-init
loop-i-init c = refl

pub returns-then-begins_with : goal.returns-then-begins_with
returns-then-begins_with c =
    let l = c.loop-i in
    let a = c.args in
    first-here a.shared.now a.validities.now a.days l.i (omega arith) (sym c.begins_with.ensures ∙ c.if-begins_with.true) ∙ l.invariant

pub loop-i-preserved : goal.loop-i-preserved
loop-i-preserved c =
    let l = c.loop-i in
    let a = c.args in
    first-later a.shared.now a.validities.now a.days l.i (omega arith) (sym c.begins_with.ensures ∙ c.if-begins_with.false) ∙ l.invariant

pub returns : goal.returns
returns c =
    let l = c.loop-i in
    let a = c.args in
    first-none a.shared.now a.validities.now a.days l.i (omega arith) (omega arith) ∙ l.invariant
