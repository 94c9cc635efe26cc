use native.Mathlib.Omega.{arith}
use Rattle.clock.proofs.CalendarLaws.{guess-below, guess-over, guess-right}
use Rattle.clock.proofs.month_at.Goals as goal

pub month_start-requires : goal.month_start-requires
month_start-requires c = guess-below c.args.day c.requires

pub overflow_sub-result : goal.overflow_sub-result
overflow_sub-result c =
    (guess-over c.args.day c.requires (omega (arith, c.if-day-month_start.true, c.month_start.ensures))).0

pub returns-then-day-month_start : goal.returns-then-day-month_start
returns-then-day-month_start c =
    (guess-over c.args.day c.requires (omega (arith, c.if-day-month_start.true, c.month_start.ensures))).1

pub returns-else-day-month_start : goal.returns-else-day-month_start
returns-else-day-month_start c =
    guess-right c.args.day c.requires (omega (arith, c.if-day-month_start.false, c.month_start.ensures))
