use Prim.Native.Nat.{◌-◌, ◌≤◌}
use mathlib.Core.Path.{◌≡◌}
use mathlib.Core.Bool.{not}
use lib.ListN.{take}
use Rattle.plan.specs.inner.Look.{shared_wide}
use Rattle.lists.specs.Text.{same}
use Rattle.lists.specs.Part.{part}
use Rattle.plan.proofs.begins_with.Given as goal

abbrev pub invariant-loop-i : goal.invariant-loop-i
invariant-loop-i l = l.any ≡ not (same (take l.i l.shared) (part l.validity l.i l.validities))
