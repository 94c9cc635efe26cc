-- The end of a dossier in parts, in stages. Assumes nothing.
use Rattle.std.specs.Prelude.{ℕ, Bool, ◌&&◌, List, [], ◌∷◌, leb, Ok, Err}
use Rattle.lists.specs.Logic.{on, first_held}
use Rattle.columns.specs.Tables.{is_form}
use Rattle.reader.specs.declared.Fault.TheVariants as Faults
use Rattle.reader.specs.Rules.{Reading, is_line}
use Rattle.feeds.specs.declared.Feed.{Feed}
use Rattle.calls.specs.declared.Refusal.TheVariants.{Unsound, UnknownForm}
use Rattle.calls.specs.declared.Counts.{Counts}
use Rattle.calls.specs.Answers.{Answer, unless_refused}
use Rattle.calls.specs.Leaves.{Leaves}
use Rattle.calls.specs.Message.{message_sound, taken_by}
use Rattle.calls.specs.End.{most_rows, staged_rows, all_in_range, reading_kept, post_answer}

-- 15, 4, 5, 6 as they were found in the parts; else so many rows
unfoldable pub lines_reading : Feed → Reading
lines_reading f =
    let s = f.lines in
    first_held
    ((is_line f.long, Err (Faults.Long f.long))
    ∷ (is_line s.form, Err (Faults.Form s.form))
    ∷ (is_line s.wrong, Err (Faults.Field s.wrong s.column))
    ∷ (is_line s.owner, Err (Faults.Owner s.owner))
    ∷ [])
    (Ok s.rows)

-- no more rows than a message has, and the staged ones in range
unfoldable pub staged_right : List ℕ → Feed → Bool
staged_right staging f = leb f.lines.rows most_rows && all_in_range (staged_rows staging f)

-- what was found in the parts, or else what the staged rows come to
unfoldable pub found_or : List ℕ → List ℕ → List ℕ → List ℕ → Counts → Feed → Answer
found_or register staging book table c f = unless_refused 0 (reading_kept f) (post_answer register staging book table c f)

-- 18 before that
unfoldable pub known_or : List ℕ → List ℕ → List ℕ → List ℕ → Counts → Feed → Answer
known_or register staging book table c f = on (is_form f.form) (found_or register staging book table c f) (Err UnknownForm)

-- 1 before that
unfoldable pub right_answer : List ℕ → List ℕ → List ℕ → List ℕ → Counts → Feed → Answer
right_answer register staging book table c f =
    on (message_sound register book table c && staged_right staging f) (known_or register staging book table c f) (Err Unsound)

-- what an answer leaves: the staged rows taken, or the day as it was
unfoldable pub taken_from : Answer → Feed → List ℕ → List ℕ → List ℕ → Counts → Leaves
taken_from answer f staging book table c = taken_by answer (staged_rows staging f) f.sender book table c
