use mathlib.Core.Path.{◌≡◌}
use Prim.Native.Nat.{◌+◌, ◌-◌, ◌≤◌}
use lib.ListN.{length, replicate}
use Rattle.lists.specs.Part.{over}
use Rattle.script_text.proofs.pad.Given as goal

abbrev pub invariant-loop-left : goal.invariant-loop-left
invariant-loop-left l = (l.end + l.left ≡ l.place + l.many) × (l.place ≤ l.end) × (l.end - l.place ≤ length l.initial.area - l.place) × (length l.area ≡ length l.initial.area) × (over l.end (replicate l.left l.value) l.area ≡ over l.place (replicate l.many l.value) l.initial.area)

abbrev pub decreases-loop-left : goal.decreases-loop-left
decreases-loop-left l = l.left
