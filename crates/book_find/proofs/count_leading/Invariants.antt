use Rattle.book_find.proofs.CountLaws.{Leads}
use Rattle.book_find.proofs.count_leading.Given as goal

abbrev pub invariant-loop-i : goal.invariant-loop-i
invariant-loop-i l = Leads l.book l.at l.entries l.number l.own l.i
