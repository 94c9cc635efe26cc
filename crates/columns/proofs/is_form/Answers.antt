use mathlib.Core.Path.{refl}
use Rattle.columns.proofs.is_form.Goals as goal

pub returns : goal.returns
returns c = refl
