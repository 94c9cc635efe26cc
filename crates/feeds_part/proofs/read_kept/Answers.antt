use native.Mathlib.Omega.{arith}
use Rattle.feeds_part.proofs.read_kept.Goals as goal

pub returns : goal.returns
returns c = record { is = c.read.ensures; room = omega arith }
