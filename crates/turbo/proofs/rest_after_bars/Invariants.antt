use mathlib.Core.Path.{◌≡◌}
use Rattle.turbo.specs.Split.{tail_at}
use Rattle.turbo.proofs.rest_after_bars.Given as goal

abbrev pub invariant-loop-passed : goal.invariant-loop-passed
invariant-loop-passed l = l.tail ≡ tail_at l.passed l.line
