use native.Mathlib.Omega.{arith}
use mathlib.Core.Path.{refl, sym, ap, ◌∙◌}
use lib.ListN.{length}
use Rattle.turbo_lines.proofs.LineLaws.{after-line-shorter}
use Rattle.turbo_lines.proofs.LongLaws.{line-none, line-long, line-short}
use Rattle.turbo_lines.proofs.first_long.Goals as goal

pub loop-rest-init : goal.loop-rest-init
loop-rest-init c = (omega arith, refl)

pub returns-then-line-gt4094 : goal.returns-then-line-gt4094
returns-then-line-gt4094 c = let k = c.loop-rest in sym (k.invariant.1 ∙ line-long k.rest.now c.loop-rest-test.true k.number (omega (arith, ap length c.read_line.ensures.line)))

pub loop-rest-smaller : goal.loop-rest-smaller
loop-rest-smaller c = omega (arith, ap length c.read_line.ensures.tail, after-line-shorter c.loop-rest.rest.now c.loop-rest-test.true)

pub loop-rest-preserved : goal.loop-rest-preserved
loop-rest-preserved c = let k = c.loop-rest in (
  omega (arith, ap length c.read_line.ensures.tail, after-line-shorter k.rest.now c.loop-rest-test.true, k.invariant.0),
  k.invariant.1 ∙ line-short k.rest.now c.loop-rest-test.true k.number c.read_line.result.1.now (omega (arith, ap length c.read_line.ensures.line)) c.read_line.ensures.tail,
)

pub returns : goal.returns
returns c = let k = c.loop-rest in sym (k.invariant.1 ∙ line-none k.number k.rest.now c.loop-rest-test.false)
