use mathlib.Core.Path.{ap}
use Prim.Native.Nat.{ℕ, ◌+◌, ◌*◌}
use native.Mathlib.Omega.{arith}
use Rattle.clock.proofs.MonthLaws.{day-below}
use Rattle.clock.proofs.moment.Goals as goal

pub overflow_mul-result : goal.overflow_mul-result
overflow_mul-result c = omega (arith, c.day_count.ensures, day-below _ c.requires.0)

pub overflow_add-result : goal.overflow_add-result
overflow_add-result c = omega (arith, c.day_count.ensures, day-below _ c.requires.0, c.requires.1)

pub returns : goal.returns
returns c = ap (λ (n : ℕ). record { 0 = n * 86400 + c.args.time.0 }) c.day_count.ensures
