-- What a call leaves: its outcome, and book and table afterwards. Assumes nothing.
use Rattle.std.specs.Prelude.{ℕ, List}
use Rattle.lists.specs.Logic.{on}
use Rattle.calls.specs.declared.Counts.{Counts}
use Rattle.calls.specs.declared.Outcome.{Outcome}
use Rattle.calls.specs.Answers.{Answer, is_accepted}

-- used bytes of the book, rows of the table
abbrev pub counts_of : ℕ → ℕ → Counts
counts_of used rows = record { used = used; rows = rows }

-- an answer, and the counts to pass on
abbrev pub outcome_of : Answer → Counts → Outcome
outcome_of answer counts = record { answer = answer; counts = counts }

-- the lent book and table with the counts
pub record Day : Type 0 where
  pub book : List ℕ
  pub table : List ℕ
  pub counts : Counts

abbrev pub day_of : List ℕ → List ℕ → Counts → Day
day_of book table counts = record { book = book; table = table; counts = counts }

-- all that a call gives back
pub record Leaves : Type 0 where
  pub outcome : Outcome
  pub book : List ℕ
  pub table : List ℕ

abbrev pub leaves : Outcome → List ℕ → List ℕ → Leaves
leaves outcome book table = record { outcome = outcome; book = book; table = table }

-- by its answer: an acceptance leaves the new day, a refusal gives back the day as it was
abbrev pub leaves_by : Answer → Day → Day → Leaves
leaves_by answer new given =
    record {
      outcome = outcome_of answer (on (is_accepted answer) new.counts given.counts);
      book = on (is_accepted answer) new.book given.book;
      table = on (is_accepted answer) new.table given.table;
    }
