use native.Mathlib.Omega.{arith}
use mathlib.Core.Path.{ap}
use mathlib.Core.List.{List}
use Prim.Native.Nat.{ℕ}
use lib.ListN.{length}
use Rattle.turbo_lines.specs.Lines.{lines}
use Rattle.turbo_lines.proofs.LineLaws.{after-line-shorter, lines_cons, lines_none}
use Rattle.turbo_lines.proofs.count_lines.Goals as goal

pub loop-rest-smaller : goal.loop-rest-smaller
loop-rest-smaller c = omega (arith, ap length c.rest_after_line-rest.ensures, after-line-shorter c.loop-rest.rest.now c.loop-rest-test.true)

pub loop-rest-preserved : goal.loop-rest-preserved
loop-rest-preserved c =
    let rest = c.loop-rest.rest.now in
    let e = ap length c.rest_after_line-rest.ensures in (
      omega (arith, e, after-line-shorter rest c.loop-rest-test.true, c.loop-rest.invariant.0),
      omega (arith, ap (λ (m : List ℕ). length (lines m)) c.rest_after_line-rest.ensures, ap length (lines_cons rest c.loop-rest-test.true), c.loop-rest.invariant.1),
    )

pub returns : goal.returns
returns c = omega (arith, ap length (lines_none c.loop-rest.rest.now c.loop-rest-test.false), c.loop-rest.invariant.1)
