-- `at_time` is safe: the moment that it has printed is one of the century, or of the day after. Assumes nothing.
use mathlib.Core.Path.{sym, ap, ◌∙◌}
use native.Mathlib.Omega.{arith}
use Rattle.clock.specs.declared.ClockSeconds.{ClockSeconds}
use Rattle.clock.proofs.MonthLaws.{day-below}
use Rattle.boards_departures.proofs.at_time.Goals as goal

pub moment-requires : goal.moment-requires
moment-requires c = (sym c.is_date.ensures ∙ c.if-is_date.true, c.if-time-lt115200.true)

pub departure-requires : goal.departure-requires
departure-requires c =
    let date = sym c.is_date.ensures ∙ c.if-is_date.true in
    omega (arith, c.if-time-lt115200.true, day-below _ date, ap (λ (m : ClockSeconds). m.0) c.moment.ensures)
