use native.Mathlib.Numerals.{add-one}
use mathlib.Core.Path.{sym, ap, ◌∙◌}
use Rattle.turbo.specs.Split.{past, tail_at}
use Rattle.turbo.proofs.SplitLaws.{tail-zero, tail-past}
use Rattle.turbo.proofs.rest_after_bars.Goals as goal

pub loop-passed-init : goal.loop-passed-init
loop-passed-init c = sym (tail-zero _)

pub loop-passed-preserved : goal.loop-passed-preserved
loop-passed-preserved c =
    let l = c.loop-passed in
    c.rest_after_bar-tail.ensures ∙ ap (past 124) l.invariant ∙ tail-past l.passed c.args.line.now ∙ ap (λ n. tail_at n c.args.line.now) (sym (add-one l.passed))
