-- What is claimed of dates and moments. Assumes nothing.
use Rattle.std.specs.Prelude.{ℕ, ◌+◌, ◌*◌, ◌<◌, ◌≤◌, ◌≡◌, true, ◌⊎◌, ◌↔◌}
use Rattle.clock.specs.declared.OperatingSeconds.{OperatingSeconds}
use Rattle.clock.specs.Date.{leap, gregorian, is_date, next_date}
use Rattle.clock.specs.declared.ClockSeconds.{ClockSeconds}
use Rattle.clock.specs.Moment.{day_count, moment_of, date_on, date_at, second_at}

-- The leap years used are those of the full Gregorian rule, for every year from 2000 to 2099.
abbrev pub LeapYears : Type 0
LeapYears = (y : ℕ) → 2000 ≤ y → y ≤ 2099 → leap y ≡ gregorian y

-- 2000-01-01 is a date, with day count 0.
abbrev pub FirstDay : Type 0
FirstDay = (is_date 20000101 ≡ true) × (day_count 20000101 ≡ 0)

-- After each date but 2099-12-31 comes a date, whose day count is one more.
abbrev pub NextDay : Type 0
NextDay =
    (d : ℕ) → is_date d ≡ true → (d ≡ 20991231 → ⊥) → (is_date (next_date d) ≡ true) × (day_count (next_date d) ≡ day_count d + 1)

-- Each day count is below 36,525.
abbrev pub DaysBelow : Type 0
DaysBelow = (d : ℕ) → is_date d ≡ true → day_count d < 36525

-- Each number below 36,525 is the day count of a date.
abbrev pub DaysReached : Type 0
DaysReached = (k : ℕ) → k < 36525 → (d : ℕ) × (is_date d ≡ true) × (day_count d ≡ k)

-- Of two dates the smaller as YYYYMMDD is exactly the one with the smaller day count.
abbrev pub DatesOrdered : Type 0
DatesOrdered = (a b : ℕ) → is_date a ≡ true → is_date b ≡ true → (a < b) ↔ (day_count a < day_count b)

-- Two dates with the same day count are the same.
abbrev pub DatesTold : Type 0
DatesTold = (a b : ℕ) → is_date a ≡ true → is_date b ≡ true → day_count a ≡ day_count b → a ≡ b

-- A day and s seconds into an operating day is s seconds into the next: 25:20:00 is 01:20:00 of the day after.
abbrev pub NextMoment : Type 0
NextMoment =
    (d s : ℕ) → is_date d ≡ true → (d ≡ 20991231 → ⊥)
    → moment_of d (record { 0 = 86400 + s }) ≡ moment_of (next_date d) (record { 0 = s })

-- Moments order as day count times 86,400 plus time, however late the time.
abbrev pub MomentsOrdered : Type 0
MomentsOrdered =
    (a b : ℕ) (s t : OperatingSeconds)
    → ((moment_of a s).0 < (moment_of b t).0) ↔ (day_count a * 86400 + s.0 < day_count b * 86400 + t.0)

-- Of times before midnight, moments order by date and then by time.
abbrev pub SameDayOrdered : Type 0
SameDayOrdered =
    (a b : ℕ) (s t : OperatingSeconds) → is_date a ≡ true → is_date b ≡ true → s.0 < 86400 → t.0 < 86400
    → ((moment_of a s).0 < (moment_of b t).0) ↔ ((a < b) ⊎ ((a ≡ b) × (s.0 < t.0)))

-- The date counted to from 2000-01-01, as many days as a date's count, is that date.
abbrev pub DatesCounted : Type 0
DatesCounted = (d : ℕ) → is_date d ≡ true → date_on (day_count d) ≡ d

-- The moment of the date and the second that are read from a moment is that moment, to the end of 2099.
abbrev pub MomentsRead : Type 0
MomentsRead =
    (m : ClockSeconds) → m.0 < 36525 * 86400 → (is_date (date_at m) ≡ true) × (moment_of (date_at m) (record { 0 = second_at m }) ≡ m)

-- A time before midnight is read back as it was, a later one as the next date with a day of seconds less.
abbrev pub TimesRead : Type 0
TimesRead =
    (d s : ℕ) → is_date d ≡ true → s < 86400
    → (date_at (moment_of d (record { 0 = s })) ≡ d)
    × (second_at (moment_of d (record { 0 = s })) ≡ s)
    × (date_at (moment_of d (record { 0 = 86400 + s })) ≡ next_date d)
    × (second_at (moment_of d (record { 0 = 86400 + s })) ≡ s)

-- The last date's next one, on which its operating day ends, is 2100-01-01.
abbrev pub AfterLastDay : Type 0
AfterLastDay = next_date 20991231 ≡ 21000101

-- All of them.
abbrev pub All : Type 0
All =
    LeapYears
    × FirstDay
    × NextDay
    × DaysBelow
    × DaysReached
    × DatesOrdered
    × DatesTold
    × NextMoment
    × MomentsOrdered
    × SameDayOrdered
    × DatesCounted
    × MomentsRead
    × TimesRead
    × AfterLastDay
