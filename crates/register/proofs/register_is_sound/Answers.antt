use mathlib.Core.Path.{refl}
use Rattle.register.specs.Register.{register_sound}
use Rattle.register.proofs.register_is_sound.Goals as goal

pub returns : goal.returns
unfolding register_sound
returns c = refl
