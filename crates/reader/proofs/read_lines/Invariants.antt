use Prim.Native.Nat.{◌-◌}
use mathlib.Core.Path.{◌≡◌}
use lib.ListN.{length}
use Rattle.reader.proofs.ShortLaws.{Going}
use Rattle.reader.proofs.read_lines.Given as goal

abbrev pub invariant-loop-rest : goal.invariant-loop-rest
invariant-loop-rest l = Going l.table l.register l.sender l.dossier l.initial.staging l.state l.rest l.staging × (length l.staging ≡ length l.initial.staging)

abbrev pub decreases-loop-rest : goal.decreases-loop-rest
decreases-loop-rest l = length l.rest
