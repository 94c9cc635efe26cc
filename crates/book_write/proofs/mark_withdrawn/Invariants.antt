use mathlib.Core.Path.{◌≡◌}
use Prim.Native.Nat.{◌-◌, ◌≤◌}
use lib.ListN.{length}
use Rattle.lists.specs.Part.{over}
use Rattle.book_write.proofs.WriteLaws.{marks}
use Rattle.book_write.proofs.mark_withdrawn.Given as goal

abbrev pub invariant-loop-i : goal.invariant-loop-i
invariant-loop-i l = l.book ≡ over l.at (marks l.at l.initial.book l.i) l.initial.book
