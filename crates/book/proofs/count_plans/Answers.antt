use mathlib.Core.Path.{sym, ◌∙◌}
use Prim.Native.Nat.{◌/◌}
use native.Mathlib.Omega.{arith}
use Rattle.book.specs.Entries.{plan_wide}
use Rattle.book.proofs.PlanLaws.{count-start, leading-stop, leading-next, leading_end}
use borrow.Author.Rules.{rules}
use Rattle.book.proofs.count_plans.Goals as goal

pub loop-i-init : goal.loop-i-init
loop-i-init c = count-start _ _

pub returns-then-kind-ne1 : goal.returns-then-kind-ne1
returns-then-kind-ne1 c =
    let a = c.args in
    let e = leading-stop a.book.now (a.used / plan_wide) c.loop-i.i (search rules) c.if-kind-ne1.true in
    sym (c.loop-i.invariant ∙ omega arith)

pub loop-i-preserved : goal.loop-i-preserved
loop-i-preserved c =
    let a = c.args in
    let e = leading-next a.book.now (a.used / plan_wide) c.loop-i.i (search rules) c.if-kind-ne1.false in
    c.loop-i.invariant ∙ omega arith

pub returns : goal.returns
returns c =
    let a = c.args in
    let e = leading_end a.book.now (a.used / plan_wide) c.loop-i.i (search rules) in
    sym (c.loop-i.invariant ∙ omega arith)
