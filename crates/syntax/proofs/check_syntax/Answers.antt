use native.Mathlib.Omega.{arith}
use mathlib.Core.Path.{refl, sym, ◌∙◌}
use borrow.Author.Rules.{rules}
use Rattle.syntax.specs.Machine.{accepting, fault}
use Rattle.syntax.proofs.RunLaws.{run-fine, run_short}
use Rattle.std.proofs.lemmas.Result.{err_from_is_err_and}
use Rattle.syntax.proofs.check_syntax.Goals as goal

pub loop-i-init : goal.loop-i-init
unfolding fault
loop-i-init c = (search rules, refl)

pub loop-i-smaller : goal.loop-i-smaller
loop-i-smaller c = omega (arith, c.in_ok-kind.ensures.ahead)

pub loop-i-preserved : goal.loop-i-preserved
loop-i-preserved c = (c.in_ok-kind.ensures.ahead.1, sym c.in_ok-kind.ensures.leads ∙ c.loop-i.invariant.1)

pub returns-in_err-kind : goal.returns-in_err-kind
returns-in_err-kind c =
    let t = err_from_is_err_and c.from_residual.result c.from_residual.ensures.1 in
    rw (t.1, t.2) (sym c.in_err-kind.ensures.leads ∙ c.loop-i.invariant.1)

pub returns-then-ends_after : goal.returns-then-ends_after
unfolding accepting
returns-then-ends_after c = sym (run-fine _ _ _ c.loop-i-test.false (sym c.ends_after.ensures ∙ c.if-ends_after.true)) ∙ c.loop-i.invariant.1

pub returns : goal.returns
unfolding accepting
returns c = sym (run_short _ _ _ c.loop-i-test.false (sym c.ends_after.ensures ∙ c.if-ends_after.false)) ∙ c.loop-i.invariant.1
