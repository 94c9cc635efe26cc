use mathlib.Core.Path.{◌≡◌}
use Prim.Native.Nat.{◌-◌, ◌≤◌}
use lib.ListN.{length}
use Rattle.lists.specs.Part.{over}
use Rattle.book_write.proofs.WriteLaws.{written}
use Rattle.book_write.proofs.write_entries.Given as goal

abbrev pub invariant-loop-i : goal.invariant-loop-i
invariant-loop-i l = l.tail ≡ over 0 (written l.number l.sender l.bodies l.i) l.initial.tail
