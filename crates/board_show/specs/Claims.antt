-- What is claimed of a question: which ones may be asked. Assumes nothing.
use Rattle.std.specs.Prelude.{◌≡◌, true, ◌↔◌, ◌≤◌, ◌<◌}
use Rattle.clock.specs.Date.{is_date}
use Rattle.texts.specs.Facts.{TextFacts}
use Rattle.board_show.specs.Ask.{Question, asks_in_range}

-- of a question in its range: two texts of 1 to 10 bytes from 32 to 126, a date, a second of the day, a horizon of at most a day
pub record AskFacts (q : Question) : Type 0 where
  pub owner : TextFacts 10 q.owner
  pub stop : TextFacts 10 q.stop
  pub date : is_date q.date ≡ true
  pub second : q.second < 86400
  pub horizon : q.horizon ≤ 86400

-- a question is in its range exactly where these hold
abbrev pub AskExactly : Type 0
AskExactly = (q : Question) → (asks_in_range q ≡ true) ↔ AskFacts q

-- all of these
abbrev pub All : Type 0
All = AskExactly
