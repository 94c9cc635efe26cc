-- Open: what is answered, and what becomes of book, table and counts. Assumes nothing.
use Rattle.std.specs.Prelude.{ℕ, ◌*◌, List, [], map, eqb, leb, length, Ok, Err}
use Rattle.lists.specs.Logic.{on}
use Rattle.lists.specs.Part.{over}
use Rattle.lists.specs.Rows.{flat}
use Rattle.columns.specs.declared.Table.TheVariants as Tables
use Rattle.reader.specs.Rules.{reading_of, items_of, data_rows}
use Rattle.plan.specs.Rules.{joined}
use Rattle.keys.specs.Sorted.{put_all}
use Rattle.table.specs.Rules.{table_room}
use Rattle.book.specs.Entries.{plan_wide, plan_entry}
use Rattle.book.specs.Rules.{book_room, plan_rows}
use Rattle.calls.specs.declared.Refusal.TheVariants.{BookShort, TableShort, KeyTwice}
use Rattle.calls.specs.declared.Counts.{Counts}
use Rattle.calls.specs.Answers.{Answer, unless_refused}
use Rattle.calls.specs.Leaves.{Leaves, counts_of, day_of, leaves_by}

-- each pass time joined with each validity of the same owner and service level
unfoldable pub passages_of : List ℕ → List ℕ → List (List ℕ)
passages_of planning calendar = joined (data_rows Tables.Planning (items_of Tables.Planning planning)) (data_rows Tables.Calendar (items_of Tables.Calendar calendar))

-- the plan: they by key
unfoldable pub plan_of : List ℕ → List ℕ → List (List ℕ)
plan_of planning calendar = put_all (passages_of planning calendar) []

-- 7 by the joined pairs, 9 where one key arises twice, 8 by the rows, or acceptance
unfoldable pub room_to_open : List (List ℕ) → List ℕ → List ℕ → Answer
room_to_open bodies book table =
    on (leb (length bodies * plan_wide) (book_room book))
    (on (eqb (length (put_all bodies [])) (length bodies)) (on (leb (length bodies) (table_room table)) (Ok 0) (Err TableShort)) (Err KeyTwice))
    (Err BookShort)

-- the planning goes through 2, 3, 15, 4, 5 before the calendar
unfoldable pub open_answer : List ℕ → List ℕ → List ℕ → List ℕ → Answer
open_answer planning calendar book table =
    unless_refused 1 (reading_of Tables.Planning [] 0 planning)
    (unless_refused 2 (reading_of Tables.Calendar [] 0 calendar) (room_to_open (passages_of planning calendar) book table))

-- ---- afterwards

abbrev pub counts_opened : List (List ℕ) → Counts
counts_opened plan = counts_of (length plan * plan_wide) (length plan)

-- what an answer leaves: the plan as entries and rows from the start on, bytes behind them kept, or the day as it was
unfoldable pub opened_by : Answer → List (List ℕ) → List ℕ → List ℕ → Counts → Leaves
opened_by answer plan book table c =
    leaves_by answer
    (day_of
    (over 0 (flat (map plan_entry plan)) book)
    (over 0 (flat (plan_rows plan)) table)
    (counts_opened plan))
    (day_of book table c)

unfoldable pub open_leaves : List ℕ → List ℕ → List ℕ → List ℕ → Counts → Leaves
open_leaves planning calendar book table c = opened_by (open_answer planning calendar book table) (plan_of planning calendar) book table c
