use mathlib.Core.Path.{ap}
use Prim.Native.Nat.{ℕ, ◌+◌, ◌-◌, ◌%◌}
use native.Mathlib.Omega.{arith}
use Rattle.clock.specs.Moment.{day_count}
use Rattle.clock.proofs.DateLaws.{parts}
use Rattle.clock.proofs.MonthLaws.{month-below, month-most}
use Rattle.clock.proofs.day_count.Goals as goal

pub overflow_sub-k : goal.overflow_sub-k
overflow_sub-k c = (parts _ c.requires).from-2000

pub overflow_sub-k-2 : goal.overflow_sub-k-2
overflow_sub-k-2 c = (parts _ c.requires).from-1

pub month_start-requires : goal.month_start-requires
month_start-requires c = omega (arith, month-below _ c.requires)

pub overflow_sub-result : goal.overflow_sub-result
overflow_sub-result c = (parts _ c.requires).first

pub overflow_add-result : goal.overflow_add-result
overflow_add-result c = omega (arith, c.month_start.ensures, month-most _ c.requires)

pub returns : goal.returns
unfolding day_count
returns c = ap (λ (n : ℕ). n + (c.args.date % 100 - 1)) c.month_start.ensures
