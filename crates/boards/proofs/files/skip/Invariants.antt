use Prim.Native.Nat.{◌≤◌}
use Rattle.boards.proofs.files.skip.Given as goal

abbrev pub invariant-loop-left : goal.invariant-loop-left
invariant-loop-left l = l.left ≤ 4294967295

abbrev pub decreases-loop-left : goal.decreases-loop-left
decreases-loop-left l = l.left
