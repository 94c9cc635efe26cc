use mathlib.Core.Path.{refl}
use Rattle.passage.specs.Ranges.{times_in_range}
use Rattle.passage.proofs.times_in_range.Goals as goal

pub returns : goal.returns
unfolding times_in_range
returns c = refl
