use mathlib.Core.Path.{◌≡◌}
use mathlib.Core.Bool.{false}
use Rattle.lists.specs.Scan.{Clear}
use Rattle.lists.proofs.scan.any_of.Given as goal

abbrev pub invariant-loop-b : goal.invariant-loop-b
invariant-loop-b g l = l.any ≡ false → Clear (goal.F-post g l.test) l.block l.b-index
