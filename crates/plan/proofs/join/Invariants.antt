use Prim.Native.Nat.{◌-◌, ◌≤◌}
use mathlib.Core.Path.{◌≡◌}
use lib.ListN.{length}
use Rattle.plan.proofs.PlanLaws.{Planned}
use Rattle.plan.proofs.join.Given as goal

abbrev pub invariant-loop-i : goal.invariant-loop-i
invariant-loop-i l = (l.k ≤ l.most) × Planned l.passes l.validities l.times l.days l.most l.initial.out l.out l.k l.i
