use mathlib.Core.Path.{◌≡◌}
use lib.ListN.{drop}
use Rattle.texts.specs.inner.Steps.{all_plain, plain}
use Rattle.texts.proofs.is_plain.Given as goal

abbrev pub invariant-loop-b : goal.invariant-loop-b
invariant-loop-b l = plain l.field ≡ all_plain (drop l.b-index l.field)
