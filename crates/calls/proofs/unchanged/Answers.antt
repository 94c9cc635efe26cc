use mathlib.Core.Path.{refl}
use Rattle.calls.proofs.unchanged.Goals as goal

pub returns : goal.returns
returns c = refl
