use Rattle.table.specs.Rules.{rows}
use Rattle.withdrawals_replay.proofs.TableLaws.{Summed}
use Rattle.withdrawals_replay.proofs.count_after.Given as goal

abbrev pub invariant-loop-i : goal.invariant-loop-i
invariant-loop-i l = Summed (rows l.count l.table) l.named l.slots l.count l.i l.sum
