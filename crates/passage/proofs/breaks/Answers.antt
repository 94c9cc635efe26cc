use mathlib.Core.Path.{refl}
use Rattle.passage.specs.inner.Roles.{breaks_text}
use Rattle.passage.proofs.breaks.Goals as goal

pub returns : goal.returns
unfolding breaks_text
returns c = refl
