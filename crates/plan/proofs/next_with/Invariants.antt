use Prim.Native.Nat.{◌+◌, ◌-◌, ◌≤◌}
use mathlib.Core.Path.{◌≡◌}
use Rattle.reader.specs.Passes.{validity_wide}
use Rattle.lists.proofs.RowLaws.{window}
use Rattle.plan.specs.inner.Look.{first_with}
use Rattle.plan.proofs.next_with.Given as goal

abbrev pub invariant-loop-i : goal.invariant-loop-i
invariant-loop-i l = l.i + first_with l.shared (window validity_wide l.i l.days l.validities) ≡ l.from + first_with l.shared (window validity_wide l.from l.days l.validities)
