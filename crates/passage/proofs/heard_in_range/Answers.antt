use mathlib.Core.Path.{refl}
use Rattle.passage.specs.Ranges.{heard_in_range}
use Rattle.passage.proofs.heard_in_range.Goals as goal

pub returns : goal.returns
unfolding heard_in_range
returns c = rw c.in_stamp_range.ensures refl
