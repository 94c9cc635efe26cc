-- What a board is asked, and what may be asked. Assumes nothing.
use Rattle.std.specs.Prelude.{ℕ, Bool, ◌&&◌, List, leb, ltb}
use Rattle.clock.specs.declared.ClockSeconds.{ClockSeconds}
use Rattle.clock.specs.Date.{is_date}
use Rattle.clock.specs.Moment.{moment_of, later}
use Rattle.texts.specs.Texts.{is_text}

-- whose stop, from which second of which date, and for how many seconds
pub record Question : Type 0 where
  pub owner : List ℕ
  pub stop : List ℕ
  pub date : ℕ
  pub second : ℕ
  pub horizon : ℕ

-- what is asked, by its parts in the call's order
abbrev pub asked : List ℕ → List ℕ → ℕ → ℕ → ℕ → Question
asked owner stop date second horizon = record { owner = owner; stop = stop; date = date; second = second; horizon = horizon }

-- texts of 1 to 10 bytes from 32 to 126, a date, a second of the day, a horizon of at most a day
unfoldable pub asks_in_range : Question → Bool
asks_in_range q =
    is_text q.owner && is_text q.stop && is_date q.date && ltb q.second 86400 && leb q.horizon 86400

-- the moment from which departures are shown, and the last one: both are moments of the clock
abbrev pub now_of : Question → ClockSeconds
now_of q = moment_of q.date (record { 0 = q.second })

abbrev pub end_of : Question → ClockSeconds
end_of q = later (now_of q) q.horizon
