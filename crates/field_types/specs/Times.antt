-- T: the time of an operating day. Assumes nothing.
use Rattle.std.specs.Prelude.{◌&&◌, ℕ, ◌+◌, ◌*◌, List, leb, Option, Some, None}
use Rattle.clock.specs.declared.OperatingSeconds.{OperatingSeconds}
use Rattle.field_types.specs.Digits.{only_if, triple}

-- seconds, with hours to most, minutes and seconds to 59
abbrev pub clock_of : ℕ → Option (ℕ × ℕ × ℕ) → Option ℕ
clock_of most (Some (h, m, s)) = only_if (leb h most && leb m 59 && leb s 59) (Some (h * 3600 + m * 60 + s))
clock_of most None = None

-- HH:MM:SS with hours to most
unfoldable pub clock : ℕ → List ℕ → Option ℕ
clock most f = clock_of most (triple 2 58 f)

-- the seconds as those of an operating day
abbrev pub time_of : Option ℕ → Option OperatingSeconds
time_of (Some n) = Some (record { 0 = n })
time_of None = None

-- T: 00:00:00 to 31:59:59
unfoldable pub time : List ℕ → Option OperatingSeconds
time f = time_of (clock 31 f)
