use mathlib.Core.Path.{◌≡◌}
use Prim.Native.Nat.{◌+◌}
use Rattle.book.specs.Entries.{leading, plan_count}
use Rattle.book.proofs.PlanLaws.{plans_from}
use Rattle.book.proofs.count_plans.Given as goal

abbrev pub invariant-loop-i : goal.invariant-loop-i
invariant-loop-i l = plan_count l.used l.book ≡ l.i + leading (plans_from l.book l.n l.i)
