-- A day, calls on it one after another, and a log made of the calls and their answers alone. Assumes nothing.
use Rattle.std.specs.Prelude.{ℕ, ◌-◌, Bool, true, false, List, [], ◌∷◌, ◌++◌, map, eqb, ltb, is_ok}
use Rattle.lists.specs.Logic.{on}
use Rattle.lists.specs.Part.{over}
use Rattle.lists.specs.Rows.{flat}
use Rattle.feeds.specs.Kept.{feed_of}
use Rattle.book.specs.Entries.{plan_entry, entries_of}
use Rattle.book.specs.Rules.{marked_withdrawn, plan_rows}
use Rattle.calls.specs.declared.Counts.{Counts}
use Rattle.calls.specs.Answers.{Answer, numbers, is_accepted}
use Rattle.calls.specs.Leaves.{Day, day_of, Leaves}
use Rattle.calls.specs.Message.{message_rows, message_answer, book_taking, table_taking, counts_taking, message_leaves}
use Rattle.calls.specs.Withdraw.{rows_without, withdraw_answer, book_without, table_without, counts_without, withdraw_leaves}
use Rattle.calls.specs.End.{staged_rows, end_answer, EndLeaves, end_leaves}
use Rattle.calls.specs.Open.{plan_of, open_answer, counts_opened, open_leaves}
use Rattle.board.specs.Rules.{Listing, Board, board_leaves}
use Rattle.board_show.specs.Ask.{Question}

-- an open (planning, calendar), a message (dossier, sender, form, register), the end of a dossier that came in parts (register, staging area, the feed's numbers: whatever
-- bytes and numbers these are), a withdrawal (message number, sender), or a board (a question, the places lent)
pub data Call : Type 0 where
  reopen : List ℕ → List ℕ → Call
  message : List ℕ → ℕ → ℕ → List ℕ → Call
  end_feed : List ℕ → List ℕ → List ℕ → Call
  withdraw : ℕ → ℕ → Call
  look : Question → List ℕ → Call

-- what a call replies: its answer; a board gives the places with it
pub data Reply : Type 0 where
  answered : Answer → Reply
  showed : Board → Reply

abbrev pub reply_to : Call → Day → Reply
reply_to (reopen planning calendar) x = answered (open_answer planning calendar x.book x.table)
reply_to (message dossier sender form register) x = answered (message_answer dossier sender form register x.book x.table x.counts)
reply_to (end_feed register staging kept) x = answered (end_answer register staging x.book x.table x.counts kept)
reply_to (withdraw n sender) x = answered (withdraw_answer n sender x.book x.table x.counts)
reply_to (look question places) x = showed (board_leaves question x.table x.counts.rows places)

abbrev pub is_listed : Listing → Bool
is_listed l = is_ok l

-- the call was not refused
abbrev pub is_done : Reply → Bool
is_done (answered a) = is_accepted a
is_done (showed board) = is_listed board.answer

-- the day that a call leaves to the next one
abbrev pub day_left : Leaves → Day
day_left left = day_of left.book left.table left.outcome.counts

abbrev pub day_ended : EndLeaves → Day
day_ended left = day_of left.book left.table left.outcome.counts

-- the day that open leaves
abbrev pub opened : List ℕ → List ℕ → List ℕ → List ℕ → Counts → Day
opened planning calendar book table c = day_left (open_leaves planning calendar book table c)

-- the day after a call, by the promises of the calls; the next call is given the counts that this one returned
abbrev pub after : Call → Day → Day
after (reopen planning calendar) x = opened planning calendar x.book x.table x.counts
after (message dossier sender form register) x = day_left (message_leaves dossier sender form register x.book x.table x.counts)
after (end_feed register staging kept) x = day_ended (end_leaves register staging x.book x.table x.counts kept)
after (withdraw n sender) x = day_left (withdraw_leaves n sender x.book x.table x.counts)
after (look question places) x = x

-- ---- the log

-- an accepted message: its number, sender and rows, and whether it stands
pub record Taken : Type 0 where
  pub number : ℕ
  pub sender : ℕ
  pub bodies : List (List ℕ)
  pub stands : Bool

abbrev pub undone : Taken → Taken
undone m = record { number = m.number; sender = m.sender; bodies = m.bodies; stands = false }

-- a message, once message n is withdrawn
abbrev pub struck : ℕ → Taken → Taken
struck n m = on (eqb m.number n) (undone m) m

-- what a call did to a day: it took rows, of a message or staged ones (number, sender, rows), struck a message out, began the day anew with a plan, or nothing
pub data Deed : Type 0 where
  took : ℕ → ℕ → List (List ℕ) → Deed
  struck_out : ℕ → Deed
  began : List (List ℕ) → Deed
  nothing : Deed

-- the number that a reply gives
abbrev pub number_given : Reply → ℕ
number_given (answered a) = (numbers a).1
number_given (showed board) = 0

-- by the call, whether it was done, and the number that it got: a message without rows gets 0, an end too. Staged rows are taken as they lie there at the end
abbrev pub deed_if : Bool → Call → ℕ → Deed
deed_if false call n = nothing
deed_if true (reopen planning calendar) n = began (plan_of planning calendar)
deed_if true (message dossier sender form register) n = on (eqb n 0) nothing (took n sender (message_rows form dossier))
deed_if true (end_feed register staging kept) n = on (eqb n 0) nothing (took n (feed_of kept).sender (staged_rows staging (feed_of kept)))
deed_if true (withdraw m sender) n = struck_out m
deed_if true (look question places) n = nothing

abbrev pub deed_of : Call → Reply → Deed
deed_of call reply = deed_if (is_done reply) call (number_given reply)

-- the day once it is done
abbrev pub done : Deed → Day → Day
done (took n sender rows) x =
    day_of (book_taking n rows sender x.book x.counts.used) (table_taking rows x.table x.counts.rows) (counts_taking rows x.table x.counts)
done (struck_out n) x =
    day_of
    (book_without n x.book x.counts.used)
    (table_without n x.book x.counts.used x.table x.counts.rows)
    (counts_without (rows_without n x.book x.counts.used x.table x.counts.rows) x.counts)
done (began plan) x = day_of (over 0 (flat (map plan_entry plan)) x.book) (over 0 (flat (plan_rows plan)) x.table) (counts_opened plan)
done nothing x = x

-- what is noted of a deed
abbrev pub noted : Deed → List Taken → List Taken
noted (took n sender rows) log = log ++ record { number = n; sender = sender; bodies = rows; stands = true } ∷ []
noted (struck_out n) log = map (struck n) log
noted (began plan) log = []
noted nothing log = log

-- the deeds since the day began, with one more
abbrev pub and_then : List Deed → Deed → List Deed
and_then deeds (took n sender rows) = deeds ++ took n sender rows ∷ []
and_then deeds (struck_out n) = deeds ++ struck_out n ∷ []
and_then deeds (began plan) = []
and_then deeds nothing = deeds

-- ---- what a day began with

-- the plan of the last open that was accepted, and the book that it was lent
pub record Begun : Type 0 where
  pub plan : List (List ℕ)
  pub lent : List ℕ

abbrev pub begun_by : List ℕ → List ℕ → List ℕ → Begun
begun_by planning calendar book = record { plan = plan_of planning calendar; lent = book }

abbrev pub begun_if : Bool → Call → Day → Begun → Begun
begun_if false call x begun = begun
begun_if true (reopen planning calendar) x begun = begun_by planning calendar x.book
begun_if true (message dossier sender form register) x begun = begun
begun_if true (end_feed register staging kept) x begun = begun
begun_if true (withdraw n sender) x begun = begun
begun_if true (look question places) x begun = begun

-- ---- runs

unfoldable pub day_after : List Call → Day → Day
day_after [] x = x
day_after (call ∷ calls) x = day_after calls (after call x)

unfoldable pub log_after : List Call → Day → List Taken → List Taken
log_after [] x log = log
log_after (call ∷ calls) x log = log_after calls (after call x) (noted (deed_of call (reply_to call x)) log)

unfoldable pub deeds_after : List Call → Day → List Deed → List Deed
deeds_after [] x deeds = deeds
deeds_after (call ∷ calls) x deeds = deeds_after calls (after call x) (and_then deeds (deed_of call (reply_to call x)))

unfoldable pub begun_after : List Call → Day → Begun → Begun
begun_after [] x begun = begun
begun_after (call ∷ calls) x begun = begun_after calls (after call x) (begun_if (is_done (reply_to call x)) call x begun)

-- ---- what a log says

-- its entries, as the book has them: kind 2 where the message stands, else 3
abbrev pub taken_entries : Taken → List (List ℕ)
taken_entries m = on m.stands (entries_of m.number m.sender m.bodies) (map marked_withdrawn (entries_of m.number m.sender m.bodies))

unfoldable pub log_entries : List Taken → List (List ℕ)
log_entries [] = []
log_entries (m ∷ log) = taken_entries m ++ log_entries log

-- the rows of the messages that stand, in the order accepted
unfoldable pub log_standing : List Taken → List (List ℕ)
log_standing [] = []
log_standing (m ∷ log) = on m.stands m.bodies [] ++ log_standing log

-- ---- a day on which there never was a message n

-- later messages have one number less
abbrev pub one_less : ℕ → ℕ → ℕ
one_less n k = on (ltb n k) (k - 1) k

-- the same deeds without message n: not taken, not struck out
unfoldable pub never : ℕ → List Deed → List Deed
never n [] = []
never n (took k sender rows ∷ deeds) = on (eqb k n) (never n deeds) (took (one_less n k) sender rows ∷ never n deeds)
never n (struck_out k ∷ deeds) = on (eqb k n) (never n deeds) (struck_out (one_less n k) ∷ never n deeds)
never n (began plan ∷ deeds) = began plan ∷ never n deeds
never n (nothing ∷ deeds) = nothing ∷ never n deeds
