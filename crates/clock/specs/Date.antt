-- Dates as numbers YYYYMMDD, in the years 2000 to 2099. Assumes nothing.
use Rattle.std.specs.Prelude.{ℕ, ◌+◌, ◌*◌, ◌/◌, ◌%◌, Bool, true, false, ◌&&◌, ◌||◌, eqb, ltb}
use Rattle.lists.specs.Logic.{on, within}

-- the year of YYYYMMDD
abbrev pub year : ℕ → ℕ
year n = n / 10000

-- the month of YYYYMMDD
abbrev pub month : ℕ → ℕ
month n = n / 100 % 100

-- the day of YYYYMMDD
abbrev pub day : ℕ → ℕ
day n = n % 100

-- the number YYYYMMDD of a year, a month and a day
abbrev pub date_from : ℕ → ℕ → ℕ → ℕ
date_from y m d = y * 10000 + m * 100 + d

-- each fourth year has a 29 February: the rule used, for the years 2000 to 2099
abbrev pub leap : ℕ → Bool
leap y = eqb (y % 4) 0

-- the full rule: each fourth year, but not each hundredth, but each four hundredth
abbrev pub gregorian : ℕ → Bool
gregorian y = on (eqb (y % 400) 0) true (on (eqb (y % 100) 0) false (eqb (y % 4) 0))

-- the days of month m, 1 to 12, of year y
unfoldable pub days_in : ℕ → ℕ → ℕ
days_in y m = on (eqb m 2) (on (leap y) 29 28) (on (eqb m 4 || eqb m 6 || eqb m 9 || eqb m 11) 30 31)

-- YYYYMMDD is a real date of the years 2000 to 2099
unfoldable pub is_date : ℕ → Bool
is_date n = within 2000 2099 (year n) && within 1 12 (month n) && within 1 (days_in (year n) (month n)) (day n)

-- the next date: the next day of the month, or the next month's first, or the next year's first
unfoldable pub next_date : ℕ → ℕ
next_date n =
    on (ltb (day n) (days_in (year n) (month n))) (n + 1)
    (on (ltb (month n) 12) (date_from (year n) (month n + 1) 1) (date_from (year n + 1) 1 1))
