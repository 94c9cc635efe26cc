use Prim.Native.Nat.{◌-◌}
use mathlib.Core.Path.{refl, sym, ◌∙◌}
use native.Mathlib.Omega.{arith}
use Rattle.feeds.proofs.KeptLaws.{zeros-stop, zeros-turn, zeros-done}
use Rattle.feeds.proofs.clear_behind.Goals as goal

pub loop-i-init : goal.loop-i-init
loop-i-init c = (omega arith, omega arith, refl)

pub returns-then-kept-i-ne0 : goal.returns-then-kept-i-ne0
returns-then-kept-i-ne0 c =
    let l = c.loop-i in
    sym (zeros-stop c.args.kept l.i (omega arith) c.if-kept-i-ne0.true) ∙ l.invariant.2

pub loop-i-preserved : goal.loop-i-preserved
loop-i-preserved c =
    let l = c.loop-i in
    (omega arith, l.invariant.1, sym (zeros-turn c.args.kept l.i (omega arith) c.if-kept-i-ne0.false) ∙ l.invariant.2)

pub returns : goal.returns
returns c =
    let l = c.loop-i in
    sym (zeros-done c.args.kept l.i (omega arith)) ∙ l.invariant.2
