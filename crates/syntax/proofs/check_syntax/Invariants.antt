use Prim.Native.Nat.{◌-◌, ◌≤◌}
use mathlib.Core.Path.{◌≡◌}
use lib.ListN.{length, drop}
use Rattle.syntax.specs.declared.State.TheVariants.{Open}
use Rattle.syntax.specs.Machine.{run, fault}
use Rattle.syntax.proofs.check_syntax.Given as goal

abbrev pub invariant-loop-i : goal.invariant-loop-i
invariant-loop-i l = (l.i ≤ length l.dossier) × (run (Open l.k) (drop l.i l.dossier) l.i ≡ fault l.dossier)

abbrev pub decreases-loop-i : goal.decreases-loop-i
decreases-loop-i l = length l.dossier - l.i
