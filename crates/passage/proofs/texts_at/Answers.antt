use mathlib.Core.Path.{◌≡◌, ◌∙◌, sym}
use native.Mathlib.Omega.{arith}
use borrow.Author.Rules.{rules}
use Rattle.lists.proofs.LogicLaws.{bool-most}
use Rattle.passage.specs.inner.Roles.{roles_wide, roles}
use Rattle.passage.proofs.RoleLaws.{texts-start, texts-turn, texts-end}
use Rattle.passage.proofs.texts_at.Goals as goal

pub loop-i-init : goal.loop-i-init
loop-i-init c = (omega arith, texts-start _ _ (search rules))

pub overflow_add-bad : goal.overflow_add-bad
overflow_add-bad c = omega (arith, bool-most c.breaks.result)

pub loop-i-preserved : goal.loop-i-preserved
loop-i-preserved c =
    let l = c.loop-i in
    let a = c.args in (
      omega (arith, bool-most c.breaks.result),
      rw (c.breaks.ensures, c.role.ensures) (texts-turn roles a.bytes.now a.at l.bad l.i (search rules) ∙ l.invariant.1),
    )

pub returns : goal.returns
returns c =
    let l = c.loop-i in
    let e : l.i ≡ roles_wide = omega arith in
    sym (texts-end _ l.bad) ∙ (rw e at l.invariant.1)
