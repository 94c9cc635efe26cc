use mathlib.Core.Path.{◌≡◌}
use Prim.Native.Nat.{◌-◌, ◌≤◌}
use Rattle.lists.specs.Rows.{rows_of}
use Rattle.passage.specs.Layout.{body_wide}
use Rattle.calls.specs.End.{any_denied}
use Rattle.feeds_end.proofs.RowsLaws.{rest}
use Rattle.feeds_end.proofs.any_denied.Given as goal

abbrev pub invariant-loop-i : goal.invariant-loop-i
invariant-loop-i l = (l.i ≤ l.count) × (any_denied l.register l.sender (rows_of body_wide l.count l.staging) ≡ any_denied l.register l.sender (rest l.count l.staging l.i))

abbrev pub decreases-loop-i : goal.decreases-loop-i
decreases-loop-i l = l.count - l.i
