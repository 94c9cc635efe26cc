-- `lines_before` is safe and ends. Assumes nothing.
use native.Mathlib.Omega.{arith}
use mathlib.Core.Path.{ap}
use lib.ListN.{length, length-take}
use Rattle.boards_reasons.proofs.lines_before.Goals as goal

pub front-front-requires : goal.front-front-requires
front-front-requires c = tt

pub loop-rest-init : goal.loop-rest-init
loop-rest-init c = omega (arith, ap length c.front-front.ensures, length-take c.args.place c.args.dossier.now)

pub ends-n-requires : goal.ends-n-requires
ends-n-requires c = tt

pub overflow_add-n : goal.overflow_add-n
overflow_add-n c = omega arith

pub rest_after_line-next-requires : goal.rest_after_line-next-requires
rest_after_line-next-requires c = tt

pub loop-rest-smaller : goal.loop-rest-smaller
loop-rest-smaller c = omega arith

pub loop-rest-preserved : goal.loop-rest-preserved
loop-rest-preserved c = omega arith

pub returns : goal.returns
returns c = tt
