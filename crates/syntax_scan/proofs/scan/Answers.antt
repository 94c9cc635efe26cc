use native.Mathlib.Omega.{arith}
use mathlib.Core.Path.{refl, sym, ◌∙◌}
use borrow.Author.Rules.{rules}
use Rattle.std.proofs.lemmas.Result.{err_from_is_err_and}
use Rattle.syntax_scan.proofs.TurnLaws.{bytes-end}
use Rattle.syntax_scan.proofs.scan.Goals as goal

pub loop-i-init : goal.loop-i-init
loop-i-init c = (search rules, refl)

pub loop-i-smaller : goal.loop-i-smaller
loop-i-smaller c = omega (arith, c.in_ok-next.ensures.ahead)

pub loop-i-preserved : goal.loop-i-preserved
loop-i-preserved c = (c.in_ok-next.ensures.ahead.1, sym c.in_ok-next.ensures.leads ∙ c.loop-i.invariant.1)

pub returns-in_err-next : goal.returns-in_err-next
returns-in_err-next c =
    let t = err_from_is_err_and c.from_residual.result c.from_residual.ensures.1 in
    rw (t.1, t.2) (sym c.in_err-next.ensures.leads ∙ c.loop-i.invariant.1)

pub returns : goal.returns
returns c = sym (bytes-end _ _ _ c.loop-i-test.false) ∙ c.loop-i.invariant.1
