use Prim.Native.Nat.{◌-◌}
use lib.ListN.{length}
use Rattle.syntax.proofs.LineLaws.{Reading}
use Rattle.syntax.proofs.line_end.Given as goal

abbrev pub invariant-loop-i : goal.invariant-loop-i
invariant-loop-i l = Reading l.dossier l.i l.p l.fresh

abbrev pub decreases-loop-i : goal.decreases-loop-i
decreases-loop-i l = length l.dossier - l.p
