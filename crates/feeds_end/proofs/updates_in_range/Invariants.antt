use mathlib.Core.Path.{◌≡◌}
use mathlib.Core.Bool.{true}
use Prim.Native.Nat.{◌-◌, ◌≤◌}
use Rattle.passage.specs.Layout.{body_wide}
use Rattle.passage.proofs.CommonLaws.{left}
use Rattle.lists.specs.Rows.{rows_of}
use Rattle.calls.specs.End.{all_in_range}
use Rattle.feeds_end.proofs.RowsLaws.{rest}
use Rattle.passage.specs.inner.Roles.{all_common}
use Rattle.feeds_end.proofs.updates_in_range.Given as goal

abbrev pub invariant-loop-i : goal.invariant-loop-i
invariant-loop-i l = (l.i ≤ l.count) × (all_in_range (rows_of body_wide l.count l.staging) ≡ all_in_range (rest l.count l.staging l.i)) × (all_common (left body_wide 0 l.count 0 l.staging l.i) ≡ true)

abbrev pub decreases-loop-i : goal.decreases-loop-i
decreases-loop-i l = l.count - l.i
