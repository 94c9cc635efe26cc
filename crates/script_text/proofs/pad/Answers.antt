-- `pad` meets its contract: what is left to be written over the bytes as they are is what was to be written. Assumes nothing.
use mathlib.Core.Logic.{inl, inr}
use native.Mathlib.Omega.{arith}
use mathlib.Core.Path.{◌≡◌, refl, sym, ◌∙◌}
use Prim.Native.Nat.{◌≤◌}
use lib.ListN.{length, length-set}
use Rattle.script_text.proofs.TextLaws.{over-past, pad-turn, pad-end, pad-done}
use Rattle.script_text.proofs.pad.Goals as goal

pub loop-left-init : goal.loop-left-init
loop-left-init c = (refl, omega arith, omega arith, refl, refl)

pub returns-then-area-end : goal.returns-then-area-end
returns-then-area-end c = let l = c.loop-left in let f : length c.args.area.now ≤ l.end = omega arith in record { end = pad-end _ _ _ _ _ l.invariant.0 l.invariant.1 l.invariant.2 (inr f); bytes = sym (over-past _ _ _ c.if-area-end.true) ∙ l.invariant.4 }

pub overflow_add-end : goal.overflow_add-end
overflow_add-end c = omega arith

pub overflow_sub-left : goal.overflow_sub-left
overflow_sub-left c = omega arith

pub loop-left-smaller : goal.loop-left-smaller
loop-left-smaller c = omega arith

pub loop-left-preserved : goal.loop-left-preserved
loop-left-preserved c = let l = c.loop-left in (omega arith, omega arith, omega arith, simp length-set l.invariant.3, pad-turn _ _ _ _ c.loop-left-test.true ∙ l.invariant.4)

pub returns : goal.returns
returns c = let l = c.loop-left in let z : l.left ≡ 0 = omega arith in record { end = pad-end _ _ _ _ _ l.invariant.0 l.invariant.1 l.invariant.2 (inl z); bytes = pad-done c.args.value l.end l.left l.area z ∙ l.invariant.4 }
