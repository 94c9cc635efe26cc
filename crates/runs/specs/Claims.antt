-- The theorem on runs: what is certain after any run of calls on a day that was opened. Assumes nothing.
use Rattle.std.specs.Prelude.{ℕ, suc, ◌+◌, ◌*◌, ◌<◌, ◌≡◌, true, false, List, [], ◌++◌, map, length, get_or}
use Rattle.lists.specs.Each.{Each}
use Rattle.lists.specs.Part.{over}
use Rattle.lists.specs.Rows.{rows_of, flat}
use Rattle.passage.specs.Layout.{row_wide}
use Rattle.keys.specs.Replay.{taken_all}
use Rattle.update.specs.Rule.{row_rule}
use Rattle.table.specs.Rules.{table_sound}
use Rattle.book.specs.Entries.{plan_wide, entry_wide, plan_entry, plan_bodies, updates_in}
use Rattle.book.specs.Rules.{book_sound, next_number, standing, plan_rows}
use Rattle.calls.specs.declared.Counts.{Counts}
use Rattle.calls.specs.Answers.{is_accepted}
use Rattle.calls.specs.Open.{open_answer}
use Rattle.calls.specs.Leaves.{Day}
use Rattle.board.specs.Rules.{board_leaves}
use Rattle.board_show.specs.Ask.{Question}
use Rattle.runs.specs.Runs.{Call, Reply, reply_to, is_listed, is_done, after, opened, Taken, Deed, deed_of, done, begun_by, day_after, log_after, deeds_after, begun_after, log_entries, log_standing, never}

-- P holds of the plan, the book that its open was lent, the day and the log after any run on a day that was opened; opens in the run too, refused
-- or accepted
abbrev pub AfterRuns : (List (List ℕ) → List ℕ → Day → List Taken → Type 0) → Type 0
AfterRuns P =
    (planning calendar book table : List ℕ) (c : Counts) (calls : List Call)
    → is_accepted (open_answer planning calendar book table) ≡ true
    → let begun = begun_after calls (opened planning calendar book table c) (begun_by planning calendar book) in
    P begun.plan begun.lent (day_after calls (opened planning calendar book table c)) (log_after calls (opened planning calendar book table c) [])

-- (a) the book is the plan and the log, entry by entry, byte for byte, and behind them the bytes that it was lent with
abbrev pub BookIsPlanAndLog : Type 0
BookIsPlanAndLog =
    AfterRuns
    (λ plan book x log.
    (x.book ≡ over 0 (flat (map plan_entry plan) ++ flat (log_entries log)) book)
    × (x.counts.used ≡ length plan * plan_wide + length (log_entries log) * entry_wide))

-- the lent bytes and counts of a day are sound
abbrev pub Sound : Day → Type 0
Sound x = (book_sound x.counts.used x.book ≡ true) × (table_sound x.counts.rows x.table ≡ true)

-- and the day is sound
abbrev pub StaysSound : Type 0
StaysSound =
    AfterRuns
    (λ plan book x log. Sound x)

-- and so is any sound day after any call, whether its book and table agree or not
abbrev pub CallsKeepSound : Type 0
CallsKeepSound = (call : Call) (x : Day) → Sound x → Sound (after call x)

-- the rows of a day's table
abbrev pub rows_in : Day → List (List ℕ)
rows_in x = rows_of row_wide x.counts.rows x.table

-- the rows that a day's own book gives: the plan in it, and the updates that stand in it
abbrev pub rows_by_book : Day → List (List ℕ)
rows_by_book x = taken_all row_rule (standing (updates_in x.counts.used x.book)) (plan_rows (plan_bodies x.counts.used x.book))

-- the day is sound, and its table agrees with its book
abbrev pub Agrees : Day → Type 0
Agrees x = Sound x × (rows_in x ≡ rows_by_book x)

-- so it goes on under any call, accepted or refused, whatever the day began with
abbrev pub CallsKeepAgreeing : Type 0
CallsKeepAgreeing = (call : Call) (x : Day) → Agrees x → Agrees (after call x)

-- (b) the table's rows are the replay of the plan and the standing rows, byte for byte
abbrev pub TableIsReplay : Type 0
TableIsReplay =
    AfterRuns
    (λ plan book x log. rows_in x ≡ taken_all row_rule (log_standing log) (plan_rows plan))

-- what is known after a run on a day that was opened: the plan, the day, the log, and what the calls did, each since the last open that was accepted
pub record Run : Type 0 where
  pub plan : List (List ℕ)
  pub day : Day
  pub log : List Taken
  pub deeds : List Deed

abbrev pub run_of : List ℕ → List ℕ → List ℕ → List ℕ → Counts → List Call → Run
run_of planning calendar book table c calls =
    let x = opened planning calendar book table c in
    record {
      plan = (begun_after calls x (begun_by planning calendar book)).plan;
      day = day_after calls x;
      log = log_after calls x [];
      deeds = deeds_after calls x [];
    }

-- P holds of any two runs, of whatever calls, each on a day that was opened
abbrev pub OfTwoRuns : (Run → Run → Type 0) → Type 0
OfTwoRuns P =
    (planning calendar book table planning' calendar' book' table' : List ℕ) (c c' : Counts) (calls calls' : List Call)
    → is_accepted (open_answer planning calendar book table) ≡ true
    → is_accepted (open_answer planning' calendar' book' table') ≡ true
    → P (run_of planning calendar book table c calls) (run_of planning' calendar' book' table' c' calls')

-- two runs with one plan whose logs have the same standing rows leave the same rows
abbrev pub SameStandingSameRows : Type 0
SameStandingSameRows = OfTwoRuns (λ run run'. run.plan ≡ run'.plan → log_standing run.log ≡ log_standing run'.log → rows_in run.day ≡ rows_in run'.day)

-- message n does not stand: it was withdrawn
abbrev pub Gone : ℕ → List Taken → Type 0
Gone n log = Each (λ (m : Taken). m.number ≡ n → m.stands ≡ false) log

-- (c) a withdrawn message, wherever it stands in the log, is as if it had never been accepted and every other call had been answered as it was: a run with
-- one plan and the same deeds but for that message leaves the same rows
abbrev pub AsIfNever : Type 0
AsIfNever =
    OfTwoRuns
    (λ run run'. (n : ℕ) → run.plan ≡ run'.plan → Gone n run.log → run'.deeds ≡ never n run.deeds → rows_in run.day ≡ rows_in run'.day)

-- and where the rows are the same, every board is, its places with it
abbrev pub SameRowsSameBoards : Type 0
SameRowsSameBoards =
    OfTwoRuns
    (λ run run'.
    (question : Question) (places : List ℕ) → rows_in run.day ≡ rows_in run'.day
    → reply_to (Call.look question places) run.day ≡ reply_to (Call.look question places) run'.day)

-- message k of a log has number k, from 1
abbrev pub NumberedInOrder : Type 0
NumberedInOrder = AfterRuns (λ plan book x log. (k : ℕ) (none : Taken) → k < length log → (get_or log k none).number ≡ suc k)

-- its number does not come back: the next number counts every message accepted with rows, withdrawn or not; nor does its room, by (a)
abbrev pub NumbersNeverReturn : Type 0
NumbersNeverReturn = AfterRuns (λ plan book x log. next_number (updates_in x.counts.used x.book) ≡ suc (length log))

-- (d) a refused call changes nothing: no lent byte, no count, and nothing is noted of it
abbrev pub RefusedChangesNothing : Type 0
RefusedChangesNothing = (call : Call) (x : Day) → is_done (reply_to call x) ≡ false → (after call x ≡ x) × (deed_of call (reply_to call x) ≡ Deed.nothing)

-- a call leaves the day that its deed makes of it: nothing else of a call matters to the day
abbrev pub CallsAreDeeds : Type 0
CallsAreDeeds = (call : Call) (x : Day) → after call x ≡ done (deed_of call (reply_to call x)) x

-- nor does a board change the day, and a refused one leaves its places as they were
abbrev pub BoardsChangeNothing : Type 0
BoardsChangeNothing =
    (question : Question) (places : List ℕ) (x : Day)
    → let board = board_leaves question x.table x.counts.rows places in
    (after (Call.look question places) x ≡ x) × (reply_to (Call.look question places) x ≡ Reply.showed board) × (is_listed board.answer ≡ false → board.places ≡ places)

-- all of these
abbrev pub All : Type 0
All =
    BookIsPlanAndLog × StaysSound × CallsKeepSound × CallsKeepAgreeing × TableIsReplay × SameStandingSameRows × AsIfNever × SameRowsSameBoards × NumberedInOrder × NumbersNeverReturn
    × RefusedChangesNothing × CallsAreDeeds × BoardsChangeNothing
