-- The end of a dossier in parts: its numbers by the table, of their list, and what a refusal gives back. Assumes nothing.
use Prim.Native.Nat.{ℕ, ◌+◌, ◌*◌}
use mathlib.Core.Path.{◌≡◌, refl, ap, ◌∙◌}
use mathlib.Core.Bool.{Bool, true, false, not}
use mathlib.Core.List.{List, [], ◌∷◌}
use lib.Dec.{leb, ltb}
use lib.ListN.{length}
use Rattle.std.specs.Prelude.{Ok, Err}
use Rattle.lists.specs.Logic.{on, first_held}
use Rattle.syntax.specs.Machine.{accepting}
use Rattle.columns.specs.Tables.{is_form}
use Rattle.reader.specs.declared.Fault.TheVariants as Faults
use Rattle.reader.specs.Rules.{Reading, largest, is_line}
use Rattle.reader.specs.Numbers.{reading_numbers}
use Rattle.feeds.specs.declared.Feed.{Feed}
use Rattle.feeds.specs.Kept.{feed_of}
use Rattle.table.specs.Rules.{table_room}
use Rattle.book.specs.Entries.{entry_wide}
use Rattle.book.specs.Rules.{book_room}
use Rattle.calls.specs.declared.Refusal.TheVariants.{Unsound, Owner, StagingShort, BookShort, TableShort, UnknownForm}
use Rattle.calls.specs.declared.Counts.{Counts}
use Rattle.calls.specs.declared.Outcome.{Outcome}
use Rattle.calls.specs.Answers.{Answer, numbers, unless_refused}
use Rattle.calls.specs.Message.{number_for, rows_taken, room_for, taken_by}
use Rattle.calls.specs.End.{EndLeaves, staged_rows, any_denied, falls_short, end_sound, reading_kept, post_answer, end_answer, end_with, end_leaves}
use Rattle.calls.specs.Numbers.{line, dossier_lines, kept_table, end_numbers}
use Rattle.calls.specs.Claims.{is_one_of, EndGivesBack, EndNumbersListed, EndNumbersAreTable}
use Rattle.calls.proofs.NumbersLaws.{Four, Lines, too_many, sound-first, known-first, message-first, by-table, rooms}

-- ---- the table

-- a line before others
kept-first : (t : Bool) (x y : Reading) (k : ℕ × ℕ × ℕ) → reading_numbers y ≡ k → reading_numbers (on t x y) ≡ on t (reading_numbers x) k
kept-first true x y k h = refl
kept-first false x y k h = h

kept-by-table : (f : Feed) → reading_numbers (reading_kept f) ≡ kept_table f
unfolding reading_kept kept_table
kept-by-table f =
    let s = f.lines in
    kept-first (ltb largest f.at) _ _ _
    (kept-first (is_line f.fault) _ _ _
    (kept-first (not (accepting f.machine)) _ _ _
    (kept-first (is_line f.long) _ _ _
    (kept-first (is_line s.form) _ _ _
    (kept-first (is_line s.wrong) _ _ _
    (kept-first (is_line s.owner) _ _ _ refl))))))

post-first : (p q : Bool) (a : Answer) (ls : Lines) (z : Four) → numbers a ≡ first_held ls z → numbers (on p (Err (Owner 0)) (on q (Err StagingShort) a)) ≡ first_held (line 6 p ∷ line 14 q ∷ ls) z
post-first true q a ls z h = refl
post-first false true a ls z h = refl
post-first false false a ls z h = h

pub end-numbers : EndNumbersAreTable
unfolding end_answer post_answer room_for end_numbers
end-numbers register staging book table c kept =
    let f = feed_of kept in
    let bodies = staged_rows staging f in
    let entries = c.used + length bodies * entry_wide in
    let rows = length (rows_taken bodies table c.rows) in
    let n = number_for bodies c.used book in
    let last = line 7 (ltb (book_room book) entries) ∷ line 8 (ltb (table_room table) rows) ∷ [] in
    let denied = any_denied register f.sender bodies in
    let short = falls_short staging f in
    let post = line 6 denied ∷ line 14 short ∷ last in
    sound-first (end_sound register staging book table c kept) _ (line 18 (not (is_form f.form)) ∷ dossier_lines 0 (kept_table f) ∷ post) (0, n, 0, 0)
    (known-first (is_form f.form) _ (dossier_lines 0 (kept_table f) ∷ post) (0, n, 0, 0)
    (by-table 0 (reading_kept f) _ _ post (0, n, 0, 0) (kept-by-table f)
    (message-first (reading_kept f) _ post (0, n, 0, 0)
    (post-first denied short _ last (0, n, 0, 0)
    (rw (too_many entries (book_room book), too_many rows (table_room table)) (rooms (leb entries (book_room book)) (leb rows (table_room table)) n))))))

-- what the end leaves has these numbers
pub end-told : (register staging book table : List ℕ) (c : Counts) (kept : List ℕ) (r : Outcome) (b t k : List ℕ) → end_with r b t k ≡ end_leaves register staging book table c kept
    → (end_with r b t k ≡ end_leaves register staging book table c kept) × (numbers r.answer ≡ end_numbers register staging book table c kept)
unfolding end_leaves taken_by
end-told register staging book table c kept r b t k e =
    (e, ap (λ (l : EndLeaves). numbers l.outcome.answer) e ∙ end-numbers register staging book table c kept)

-- ---- the list

abbrev Passes : Answer → Type 0
Passes a = is_one_of (0 ∷ 1 ∷ 18 ∷ 2 ∷ 3 ∷ 15 ∷ 4 ∷ 5 ∷ 6 ∷ 14 ∷ 7 ∷ 8 ∷ []) (numbers a).0 ≡ true

passes-sound : (b : Bool) (a : Answer) → Passes a → Passes (on b a (Err Unsound))
passes-sound true a h = h
passes-sound false a h = refl

passes-known : (b : Bool) (a : Answer) → Passes a → Passes (on b a (Err UnknownForm))
passes-known true a h = h
passes-known false a h = refl

passes-reading : (r : Reading) (next : Answer) → Passes next → Passes (unless_refused 0 r next)
passes-reading (Err Faults.TooLong) next h = refl
passes-reading (Err (Faults.Syntax i)) next h = refl
passes-reading (Err (Faults.Long l)) next h = refl
passes-reading (Err (Faults.Form l)) next h = refl
passes-reading (Err (Faults.Field l c)) next h = refl
passes-reading (Err (Faults.Owner l)) next h = refl
passes-reading (Ok n) next h = h

passes-post : (p q r s : Bool) (n : ℕ) → Passes (on p (Err (Owner 0)) (on q (Err StagingShort) (on r (on s (Ok n) (Err TableShort)) (Err BookShort))))
passes-post true q r s n = refl
passes-post false true r s n = refl
passes-post false false true true n = refl
passes-post false false true false n = refl
passes-post false false false s n = refl

pub end-listed : EndNumbersListed
unfolding end_answer post_answer room_for
end-listed register staging book table c kept =
    let f = feed_of kept in
    passes-sound (end_sound register staging book table c kept) _
    (passes-known (is_form f.form) _
    (passes-reading (reading_kept f) _
    (passes-post (any_denied register f.sender (staged_rows staging f)) (falls_short staging f) (leb _ (book_room book)) (leb _ (table_room table)) (number_for (staged_rows staging f) c.used book))))

-- ---- a refusal

pub end-gives-back : EndGivesBack
unfolding end_leaves taken_by
end-gives-back register staging book table c kept e = (rw e, rw e, rw e, rw e)
