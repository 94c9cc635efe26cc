use Rattle.messages_take.proofs.LoopLaws.{Taking}
use Rattle.messages_take.proofs.take_placed.Given as goal

abbrev pub invariant-loop-taken : goal.invariant-loop-taken
invariant-loop-taken l = Taking l.bodies l.initial.table l.count l.taken l.held l.table
