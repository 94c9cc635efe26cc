-- Day counts and moments: seconds since 2000-01-01 00:00:00, each day of 86,400 seconds. Assumes nothing.
use Rattle.std.specs.Prelude.{ℕ, zero, suc, ◌+◌, ◌-◌, ◌*◌, ◌/◌, ◌%◌}
use Rattle.clock.specs.declared.OperatingSeconds.{OperatingSeconds}
use Rattle.clock.specs.declared.ClockSeconds.{ClockSeconds}
use Rattle.clock.specs.Date.{year, month, day, days_in, next_date}

-- the day count at the first of month k, counted from January 2000: each month starts where the one before ends
unfoldable pub month_start : ℕ → ℕ
month_start zero = 0
month_start (suc k) = month_start k + days_in (2000 + k / 12) (k % 12 + 1)

-- the month of a date, counted from January 2000
abbrev pub month_of : ℕ → ℕ
month_of n = (year n - 2000) * 12 + (month n - 1)

-- the days from 2000-01-01 to a date
unfoldable pub day_count : ℕ → ℕ
day_count n = month_start (month_of n) + (day n - 1)

-- the moment at which the operating day of a date shows a time
abbrev pub moment_of : ℕ → OperatingSeconds → ClockSeconds
moment_of date time = record { 0 = day_count date * 86400 + time.0 }

-- so many seconds later
abbrev pub later : ClockSeconds → ℕ → ClockSeconds
later moment seconds = record { 0 = moment.0 + seconds }

-- ---- back from a moment: the date that the clock shows, and the second of it

-- the date k days after 2000-01-01
unfoldable pub date_on : ℕ → ℕ
date_on zero = 20000101
date_on (suc k) = next_date (date_on k)

unfoldable pub date_at : ClockSeconds → ℕ
date_at moment = date_on (moment.0 / 86400)

abbrev pub second_at : ClockSeconds → ℕ
second_at moment = moment.0 % 86400
