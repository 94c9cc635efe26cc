use Prim.Native.Nat.{◌≤◌}
use lib.ListN.{length}
use Rattle.boards_keys.proofs.has_key.Given as goal

abbrev pub invariant-loop-rest : goal.invariant-loop-rest
invariant-loop-rest l = length l.rest ≤ length l.bodies

abbrev pub decreases-loop-rest : goal.decreases-loop-rest
decreases-loop-rest l = length l.rest
