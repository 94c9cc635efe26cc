use mathlib.Core.Path.{◌≡◌}
use Prim.Native.Nat.{◌-◌, ◌≤◌}
use lib.ListN.{length, take}
use Rattle.lists.specs.Part.{over}
use Rattle.book.specs.Entries.{plan_entry}
use Rattle.opening_write.proofs.WriteLaws.{written}
use Rattle.opening_write.proofs.write_plan.Given as goal

abbrev pub invariant-loop-i : goal.invariant-loop-i
invariant-loop-i l = (l.i ≤ l.n) × (length l.tail ≡ length l.initial.tail) × (l.tail ≡ over 0 (written plan_entry l.bodies (take l.i l.order)) l.initial.tail)

abbrev pub decreases-loop-i : goal.decreases-loop-i
decreases-loop-i l = l.n - l.i
