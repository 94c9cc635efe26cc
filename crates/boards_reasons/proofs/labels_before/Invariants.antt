use Prim.Native.Nat.{◌+◌, ◌-◌, ◌≤◌}
use Rattle.boards_reasons.proofs.labels_before.Given as goal

abbrev pub invariant-loop-i : goal.invariant-loop-i
invariant-loop-i l = l.i ≤ l.number + 1

abbrev pub decreases-loop-i : goal.decreases-loop-i
decreases-loop-i l = l.number - l.i
