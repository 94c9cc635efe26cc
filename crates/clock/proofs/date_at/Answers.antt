use Prim.Native.Nat.{◌/◌}
use native.Mathlib.Omega.{arith}
use Rattle.clock.specs.Moment.{date_at}
use Rattle.clock.proofs.CalendarLaws.{month-fits, first_fits, date-put}
use Rattle.clock.proofs.date_at.Goals as goal

pub month_start-first-requires : goal.month_start-first-requires
month_start-first-requires c =
    month-fits (c.args.moment.0 / 86400) (omega (arith, c.requires)) _ c.month_at-k.ensures

pub overflow_mul-result : goal.overflow_mul-result
overflow_mul-result c =
    omega (arith, month-fits (c.args.moment.0 / 86400) (omega (arith, c.requires)) _ c.month_at-k.ensures)

pub overflow_add-result-3 : goal.overflow_add-result-3
overflow_add-result-3 c =
    omega (arith, month-fits (c.args.moment.0 / 86400) (omega (arith, c.requires)) _ c.month_at-k.ensures)

pub overflow_sub-result : goal.overflow_sub-result
overflow_sub-result c =
    first_fits (c.args.moment.0 / 86400) (omega (arith, c.requires)) _ c.month_at-k.ensures _ c.month_start-first.ensures

pub overflow_add-result-5 : goal.overflow_add-result-5
overflow_add-result-5 c =
    omega (arith, c.requires, month-fits (c.args.moment.0 / 86400) (omega (arith, c.requires)) _ c.month_at-k.ensures)

pub returns : goal.returns
unfolding date_at
returns c =
    date-put (c.args.moment.0 / 86400) (omega (arith, c.requires)) _ c.month_at-k.ensures _ c.month_start-first.ensures
