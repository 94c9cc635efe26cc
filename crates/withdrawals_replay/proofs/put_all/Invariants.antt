use Rattle.withdrawals_replay.proofs.TableLaws.{Put}
use Rattle.withdrawals_replay.proofs.put_all.Given as goal

abbrev pub invariant-loop-i : goal.invariant-loop-i
invariant-loop-i l = Put l.count l.initial.table l.slots l.i l.held l.table
