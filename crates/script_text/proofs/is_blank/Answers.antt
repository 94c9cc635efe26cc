-- `is_blank` meets its contract. Assumes nothing.
use mathlib.Core.Path.{refl}
use Rattle.script_text.specs.Rules.{is_blank}
use Rattle.script_text.proofs.is_blank.Goals as goal

pub returns : goal.returns
unfolding is_blank
returns c = refl
