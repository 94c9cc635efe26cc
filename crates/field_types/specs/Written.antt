-- How numbers, times, dates and stamps are written: what the claims say is read. Assumes nothing.
use Rattle.std.specs.Prelude.{ℕ, zero, suc, ◌+◌, ◌/◌, ◌%◌, Bool, List, [], ◌∷◌, ◌++◌}
use Rattle.lists.specs.Logic.{on}
use Rattle.clock.specs.Date.{year, month, day}

-- the last k digits of n, with leading zeros
abbrev pub written : ℕ → ℕ → List ℕ
written zero n = []
written (suc k) n = written k (n / 10) ++ ((48 + n % 10) ∷ [])

-- s seconds as HH:MM:SS
abbrev pub written_time : ℕ → List ℕ
written_time s = written 2 (s / 3600) ++ 58 ∷ written 2 (s / 60 % 60) ++ 58 ∷ written 2 (s % 60)

-- a date as YYYY-MM-DD
abbrev pub written_date : ℕ → List ℕ
written_date n = written 4 (year n) ++ 45 ∷ written 2 (month n) ++ 45 ∷ written 2 (day n)

-- m minutes as HH:MM
abbrev pub written_offset : ℕ → List ℕ
written_offset m = written 2 (m / 60) ++ 58 ∷ written 2 (m % 60)

-- second s of date d, written m minutes west, with -, or east of UTC, with +
abbrev pub written_stamp : Bool → ℕ → ℕ → ℕ → List ℕ
written_stamp west d s m = written_date d ++ 84 ∷ written_time s ++ on west 45 43 ∷ written_offset m
