-- What stands read lies within the area, and each turn leaves less of it. Assumes nothing.
use Prim.Native.Nat.{◌≤◌, ◌-◌}
use lib.ListN.{length}
use Rattle.script_text.proofs.read_full.Given as goal

abbrev pub invariant-loop-end : goal.invariant-loop-end
invariant-loop-end g l = l.end ≤ length l.area

abbrev pub decreases-loop-end : goal.decreases-loop-end
decreases-loop-end g l = length l.area - l.end
