-- D: a date, kept as the number YYYYMMDD. Assumes nothing.
use Rattle.std.specs.Prelude.{ℕ, List, Option, Some, None}
use Rattle.clock.specs.Date.{is_date, date_from}
use Rattle.field_types.specs.Digits.{only_if, triple}

-- the three numbers as YYYYMMDD, if that is a real date
abbrev pub real_of : Option (ℕ × ℕ × ℕ) → Option ℕ
real_of (Some (y, m, d)) = only_if (is_date (date_from y m d)) (Some (date_from y m d))
real_of None = None

-- D: YYYY-MM-DD, a real date of the years 2000 to 2099
unfoldable pub date : List ℕ → Option ℕ
date f = real_of (triple 4 45 f)
