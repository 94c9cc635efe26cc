use mathlib.Core.Path.{refl}
use Rattle.syntax.specs.inner.Quiet.{loud}
use Rattle.syntax.proofs.is_loud.Goals as goal

pub returns : goal.returns
unfolding loud
returns c = refl
