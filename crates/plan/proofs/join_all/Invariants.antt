use Prim.Native.Nat.{◌-◌, ◌≤◌}
use mathlib.Core.Path.{◌≡◌}
use lib.ListN.{length}
use Rattle.reader.specs.Passes.{pass_wide}
use Rattle.lists.specs.Part.{part}
use Rattle.plan.proofs.JoinLaws.{Joining}
use Rattle.plan.proofs.join_all.Given as goal

abbrev pub invariant-loop-j : goal.invariant-loop-j
invariant-loop-j l = (length l.out ≡ length l.initial.out) × (l.j ≤ l.days) × (l.m ≤ l.most) × Joining (part l.pass pass_wide l.passes) l.validities l.days l.held l.most l.initial.out l.out l.m l.j

abbrev pub decreases-loop-j : goal.decreases-loop-j
decreases-loop-j l = l.days - l.j
