use Prim.Native.Nat.{◌-◌, ◌<◌}
use mathlib.Core.Path.{◌≡◌}
use lib.ListN.{length}
use Rattle.boards.proofs.scripts.Given as goal

abbrev pub invariant-loop-i : goal.invariant-loop-i
invariant-loop-i l = (l.count < 18446744073709551616) × (length l.paper ≡ length l.initial.paper) × (length l.register ≡ length l.initial.register) × (length l.book ≡ length l.initial.book) × (length l.table ≡ length l.initial.table)

abbrev pub decreases-loop-i : goal.decreases-loop-i
decreases-loop-i l = l.count - l.i
