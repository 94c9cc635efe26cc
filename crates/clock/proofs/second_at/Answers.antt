use mathlib.Core.Path.{refl}
use Rattle.clock.proofs.second_at.Goals as goal

pub returns : goal.returns
returns c = refl
