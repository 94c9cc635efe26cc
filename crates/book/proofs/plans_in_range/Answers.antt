use mathlib.Core.Path.{◌≡◌, sym, ◌∙◌}
use Prim.Native.Nat.{◌+◌, ◌*◌}
use native.Mathlib.Omega.{arith}
use borrow.Author.Rules.{rules}
use Rattle.passage.proofs.CommonLaws.{common-start, common-now}
use Rattle.book.specs.Entries.{plan_wide}
use Rattle.book.proofs.PlanLaws.{plans-start, plans-step, plans-end}
use Rattle.book.proofs.plans_in_range.Goals as goal

pub loop-i-init : goal.loop-i-init
loop-i-init c =
    let a = c.args in
    (plans-start a.book.now a.plans, sym (common-start plan_wide 1 a.plans 0 a.book.now) ∙ c.requires.book_value)

pub plan_in_range-requires : goal.plan_in_range-requires
plan_in_range-requires c =
    let i = c.loop-i.i in
    let common = common-now plan_wide 1 c.args.plans 0 c.args.book.now i c.loop-i-test.true (omega arith) c.loop-i.invariant.1 in
    let e : 0 + i * plan_wide + 1 ≡ i * plan_wide + 1 = omega arith in
    record { body_wide_in_bounds = search rules; bytes_value = rw e at common.0 }

pub loop-i-preserved : goal.loop-i-preserved
loop-i-preserved c =
    let a = c.args in
    let l = c.loop-i in
    let common = common-now plan_wide 1 a.plans 0 a.book.now l.i c.loop-i-test.true (omega arith) l.invariant.1 in
    (l.invariant.0 ∙ plans-step a.book.now a.plans l.i c.loop-i-test.true ∙ rw (sym c.plan_in_range.ensures ∙ c.if-not-plan_in_range.false), common.1)

pub returns-then-not-plan_in_range : goal.returns-then-not-plan_in_range
returns-then-not-plan_in_range c =
    let a = c.args in
    let l = c.loop-i in
    sym (l.invariant.0 ∙ plans-step a.book.now a.plans l.i c.loop-i-test.true ∙ rw (sym c.plan_in_range.ensures ∙ c.if-not-plan_in_range.true))

pub returns : goal.returns
returns c =
    let a = c.args in
    let l = c.loop-i in
    sym (l.invariant.0 ∙ plans-end a.book.now a.plans l.i c.loop-i-test.false)
