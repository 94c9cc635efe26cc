use Rattle.withdrawals_replay.proofs.TableLaws.{Removed}
use Rattle.withdrawals_replay.proofs.remove_all.Given as goal

abbrev pub invariant-loop-i : goal.invariant-loop-i
invariant-loop-i l = Removed l.count l.initial.table l.slots l.i l.held l.table
