-- The end of a dossier that came in parts: what is answered, and what becomes of book, table, counts and the feed's numbers. Assumes nothing.
use Rattle.std.specs.Prelude.{ℕ, ◌-◌, ◌*◌, ◌/◌, Bool, true, false, not, ◌&&◌, ◌||◌, List, [], ◌∷◌, leb, ltb, length, replicate, Ok, Err}
use Rattle.lists.specs.Logic.{on, first_held}
use Rattle.lists.specs.Rows.{rows_of}
use Rattle.syntax.specs.Machine.{accepting}
use Rattle.passage.specs.Layout.{body_wide, owner_of}
use Rattle.passage.specs.Ranges.{update_in_range}
use Rattle.columns.specs.Tables.{is_form}
use Rattle.register.specs.Register.{grants}
use Rattle.reader.specs.declared.Fault.TheVariants as Faults
use Rattle.reader.specs.Rules.{Reading, largest, is_line}
use Rattle.feeds.specs.declared.Feed.{Feed}
use Rattle.feeds.specs.Kept.{feed_of, is_begun}
use Rattle.calls.specs.declared.Refusal.TheVariants.{Unsound, Owner, StagingShort, UnknownForm}
use Rattle.calls.specs.declared.Counts.{Counts}
use Rattle.calls.specs.declared.Outcome.{Outcome}
use Rattle.calls.specs.Answers.{Answer, is_accepted, unless_refused}
use Rattle.calls.specs.Message.{message_sound, room_for, taken_by}

-- ---- the staged rows

-- the smaller of the two
abbrev pub least : ℕ → ℕ → ℕ
least a b = on (leb a b) a b

-- the staged rows, as far as the staging area that is lent now has them
unfoldable pub staged_rows : List ℕ → Feed → List (List ℕ)
staged_rows staging f = rows_of body_wide (least f.staged (length staging / body_wide)) staging

-- each is an update in range
unfoldable pub all_in_range : List (List ℕ) → Bool
all_in_range [] = true
all_in_range (r ∷ rs) = update_in_range r && all_in_range rs

-- one of them has an owner that the sender is not registered for
unfoldable pub any_denied : List ℕ → ℕ → List (List ℕ) → Bool
any_denied register sender [] = false
any_denied register sender (r ∷ rs) = not (grants register sender (owner_of r)) || any_denied register sender rs

-- rows were read that were not staged, or do not lie in the staging area that is lent now
abbrev pub falls_short : List ℕ → Feed → Bool
falls_short staging f = ltb f.staged f.lines.rows || ltb (length staging) (f.lines.rows * body_wide)

-- ---- the answer

-- no message has more rows
abbrev pub most_rows : ℕ
most_rows = 2427

-- 1: what the end is lent
unfoldable pub end_sound : List ℕ → List ℕ → List ℕ → List ℕ → Counts → List ℕ → Bool
end_sound register staging book table c kept =
    message_sound register book table c
    && (is_begun kept && (leb (feed_of kept).lines.rows most_rows && all_in_range (staged_rows staging (feed_of kept))))

-- 2, 3, 15, 4, 5, 6 as they were found in the parts; else so many rows. An unfinished dossier has its fault where it ends
unfoldable pub reading_kept : Feed → Reading
reading_kept f =
    let s = f.lines in
    first_held
    ((ltb largest f.at, Err Faults.TooLong)
    ∷ (is_line f.fault, Err (Faults.Syntax (f.fault - 1)))
    ∷ (not (accepting f.machine), Err (Faults.Syntax f.at))
    ∷ (is_line f.long, Err (Faults.Long f.long))
    ∷ (is_line s.form, Err (Faults.Form s.form))
    ∷ (is_line s.wrong, Err (Faults.Field s.wrong s.column))
    ∷ (is_line s.owner, Err (Faults.Owner s.owner))
    ∷ [])
    (Ok s.rows)

-- 6 with line 0 by the register that is lent now, 14, then 7, 8 or acceptance
unfoldable pub post_answer : List ℕ → List ℕ → List ℕ → List ℕ → Counts → Feed → Answer
post_answer register staging book table c f =
    let rows = staged_rows staging f in
    first_held
    ((any_denied register f.sender rows, Err (Owner 0))
    ∷ (falls_short staging f, Err StagingShort)
    ∷ [])
    (room_for rows book table c)

-- 18 for a form that is not known, before all that was found in the parts
unfoldable pub end_answer : List ℕ → List ℕ → List ℕ → List ℕ → Counts → List ℕ → Answer
end_answer register staging book table c kept =
    on (end_sound register staging book table c kept)
    (on (is_form (feed_of kept).form)
    (unless_refused 0 (reading_kept (feed_of kept)) (post_answer register staging book table c (feed_of kept)))
    (Err UnknownForm))
    (Err Unsound)

-- ---- afterwards

-- all that the end gives back
pub record EndLeaves : Type 0 where
  pub outcome : Outcome
  pub book : List ℕ
  pub table : List ℕ
  pub kept : List ℕ

abbrev pub end_with : Outcome → List ℕ → List ℕ → List ℕ → EndLeaves
end_with outcome book table kept = record { outcome = outcome; book = book; table = table; kept = kept }

-- the numbers of no begun feed
abbrev pub cleared : List ℕ
cleared = replicate 48 0

-- an acceptance leaves the staged rows taken and the numbers cleared, a refusal all as it was
unfoldable pub end_leaves : List ℕ → List ℕ → List ℕ → List ℕ → Counts → List ℕ → EndLeaves
end_leaves register staging book table c kept =
    let answer = end_answer register staging book table c kept in
    let left = taken_by answer (staged_rows staging (feed_of kept)) (feed_of kept).sender book table c in
    end_with left.outcome left.book left.table (on (is_accepted answer) cleared kept)
