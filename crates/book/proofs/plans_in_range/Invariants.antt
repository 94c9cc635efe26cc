use mathlib.Core.Path.{◌≡◌}
use mathlib.Core.Bool.{true}
use mathlib.Core.List.{map}
use Rattle.lists.specs.Rows.{rows_of}
use Rattle.passage.proofs.CommonLaws.{left}
use Rattle.book.specs.Entries.{plan_wide, plan_body_of}
use Rattle.book.specs.Rules.{all_plans}
use Rattle.book.proofs.PlanLaws.{bodies_from}
use Rattle.passage.specs.inner.Roles.{all_common}
use Rattle.book.proofs.plans_in_range.Given as goal

abbrev pub invariant-loop-i : goal.invariant-loop-i
invariant-loop-i l =
    (all_plans (map plan_body_of (rows_of plan_wide l.plans l.book)) ≡ all_plans (bodies_from l.book l.plans l.i)) × (all_common (left plan_wide 1 l.plans 0 l.book l.i) ≡ true)
