use Prim.Native.Nat.{◌≤◌}
use mathlib.Core.Path.{◌≡◌}
use lib.ListN.{length}
use Rattle.boards.proofs.lines.Given as goal

abbrev pub invariant-loop-left : goal.invariant-loop-left
invariant-loop-left l = (l.left ≤ 4294967295) × (length l.paper ≡ length l.initial.paper) × (length l.register ≡ length l.initial.register) × (length l.book ≡ length l.initial.book) × (length l.table ≡ length l.initial.table)

abbrev pub decreases-loop-left : goal.decreases-loop-left
decreases-loop-left l = l.left
