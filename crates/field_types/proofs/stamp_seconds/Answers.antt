use native.Mathlib.Omega.{arith}
use Rattle.field_types.specs.Stamps.{stamp_seconds}
use Rattle.clock.proofs.MonthLaws.{day-below}
use Rattle.field_types.proofs.stamp_seconds.Goals as goal

pub overflow_add-local : goal.overflow_add-local
overflow_add-local c = omega (arith, c.day_count.ensures, day-below _ c.requires.0)

pub overflow_mul-local : goal.overflow_mul-local
overflow_mul-local c = omega (arith, c.day_count.ensures, day-below _ c.requires.0)

pub overflow_add-local-2 : goal.overflow_add-local-2
overflow_add-local-2 c = omega (arith, c.day_count.ensures, day-below _ c.requires.0)

pub overflow_add-result : goal.overflow_add-result
overflow_add-result c = omega (arith, c.day_count.ensures, day-below _ c.requires.0)

pub returns-then-west : goal.returns-then-west
unfolding stamp_seconds
returns-then-west c = rw (c.if-west.true, c.day_count.ensures)

pub returns : goal.returns
unfolding stamp_seconds
returns c = rw (c.if-west.false, c.day_count.ensures)
