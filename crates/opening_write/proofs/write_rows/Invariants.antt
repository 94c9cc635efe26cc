use mathlib.Core.Path.{◌≡◌}
use Prim.Native.Nat.{◌-◌, ◌≤◌}
use lib.ListN.{length, take}
use Rattle.lists.specs.Part.{over}
use Rattle.book.specs.Rules.{plan_row}
use Rattle.opening_write.proofs.WriteLaws.{written}
use Rattle.opening_write.proofs.write_rows.Given as goal

abbrev pub invariant-loop-i : goal.invariant-loop-i
invariant-loop-i l = (l.i ≤ l.n) × (length l.table ≡ length l.initial.table) × (l.table ≡ over 0 (written plan_row l.bodies (take l.i l.order)) l.initial.table)

abbrev pub decreases-loop-i : goal.decreases-loop-i
decreases-loop-i l = l.n - l.i
