-- `spell::out` ends, since each turn leaves a shorter vector. Assumes nothing.
use lib.ListN.{length}
use Rattle.vectors_reader.proofs.spell.out.Given as goal

abbrev pub decreases-loop-rest : goal.decreases-loop-rest
decreases-loop-rest l = length l.rest
