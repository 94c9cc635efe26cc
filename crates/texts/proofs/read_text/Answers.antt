use mathlib.Core.Path.{◌∙◌, sym, ap}
use Rattle.std.specs.Prelude.{Some}
use Rattle.texts.proofs.ReadingLaws.{begin, move-mark, move-byte, end-long, end-bad, end-open, end_none, end_is}
use Rattle.texts.proofs.read_text.Goals as goal
use Rattle.texts.proofs.read_text.Goals.{in-Mark, in-Byte+else-n-eq10}

pub loop-b-init : goal.loop-b-init
loop-b-init c = begin c.args.field.now

pub returns-in_err-step_at : goal.returns-in_err-step_at
returns-in_err-step_at c =
    c.from_residual.ensures
    ∙ end-bad _ _ _ _ _ c.loop-b.invariant c.loop-b-test.true (sym c.in_err-step_at.ensures)

pub returns-then-n-eq10 : goal.returns-then-n-eq10
returns-then-n-eq10 c =
    end-long _ _ _ _ _ c.loop-b.invariant c.loop-b-test.true _ (sym c.in_ok-step_at.ensures ∙ ap Some c.in-Byte.is) c.if-n-eq10.true

pub loop-b-preserved : goal.loop-b-preserved
loop-b-preserved c =
    let k = c.loop-b in
    let told = sym c.in_ok-step_at.ensures in
    elim c.match-branch-2.branch [
      | in-Mark w ↦
          rw (w.out-is, w.n-is, w.after-is)
          (move-mark _ _ _ _ _ k.invariant c.loop-b-test.true (told ∙ ap Some w.in-Mark.is))
      | in-Byte+else-n-eq10 w ↦
          rw (w.out-is, w.n-is, w.after-is)
          (move-byte _ _ _ _ _ k.invariant c.loop-b-test.true _ (told ∙ ap Some w.in-Byte.is) w.if-n-eq10.false)
    ]

pub returns-then-after : goal.returns-then-after
returns-then-after c = end-open _ _ _ _ _ c.loop-b.invariant c.loop-b-test.false c.if-after.true

pub returns-then-n-eq0 : goal.returns-then-n-eq0
returns-then-n-eq0 c = end_none _ _ _ _ _ c.loop-b.invariant c.loop-b-test.false c.if-after.false c.if-n-eq0.true

pub returns : goal.returns
returns c = end_is _ _ _ _ _ c.loop-b.invariant c.loop-b-test.false c.if-after.false c.if-n-eq0.false
