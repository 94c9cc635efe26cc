-- `text::plain` ends, since each turn leaves a shorter line. Assumes nothing.
use lib.ListN.{length}
use Rattle.vectors_ground.proofs.text.plain.Given as goal

abbrev pub decreases-loop-rest : goal.decreases-loop-rest
decreases-loop-rest l = length l.rest
