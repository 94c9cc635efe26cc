-- Document 01's table for each call, by numbers as `numbers` has them: of the lines that hold, the first is given. Assumes nothing.
use Rattle.std.specs.Prelude.{ℕ, ◌+◌, ◌-◌, ◌*◌, Bool, true, false, not, ◌||◌, List, [], ◌∷◌, eqb, ltb, length, get_or}
use Rattle.lists.specs.Logic.{Line, first_held}
use Rattle.syntax.specs.Machine.{accepting}
use Rattle.columns.specs.declared.Table.TheVariants as Tables
use Rattle.columns.specs.Tables.{is_form}
use Rattle.reader.specs.Rules.{largest, is_line}
use Rattle.reader.specs.Numbers.{reading_table}
use Rattle.feeds.specs.declared.Feed.{Feed}
use Rattle.feeds.specs.Kept.{feed_of}
use Rattle.table.specs.Rules.{table_room}
use Rattle.book.specs.Entries.{plan_wide, entry_wide, kind_of, sender_of, updates_in}
use Rattle.book.specs.Rules.{book_room, message_entries}
use Rattle.calls.specs.declared.Counts.{Counts}
use Rattle.calls.specs.Message.{message_sound, message_table, message_rows, number_for, rows_taken}
use Rattle.calls.specs.Withdraw.{withdraw_sound, rows_without}
use Rattle.calls.specs.Open.{passages_of, plan_of}
use Rattle.calls.specs.End.{staged_rows, any_denied, falls_short, end_sound}

-- a line that returns its number n and nothing besides
abbrev pub line : ℕ → Bool → Line (ℕ × ℕ × ℕ × ℕ)
line n holds = (holds, (n, 0, 0, 0))

-- the lines 2 to 6 and 15 of dossier w, by its three numbers: number, and two values that say where
abbrev pub dossier_lines : ℕ → ℕ × ℕ × ℕ → Line (ℕ × ℕ × ℕ × ℕ)
dossier_lines w n = (not (eqb n.0 0), (n.0, n.1, n.2, w))

-- there are no entries
abbrev pub none : List (List ℕ) → Bool
none [] = true
none (e ∷ es) = false

-- a message: 1, 18, then 2, 3, 15, 4, 5, 6 of its dossier, then 7, then 8; else 0 and its number
unfoldable pub message_numbers : List ℕ → ℕ → ℕ → List ℕ → List ℕ → List ℕ → Counts → ℕ × ℕ × ℕ × ℕ
message_numbers dossier sender form register book table c =
    let bodies = message_rows form dossier in
    first_held
    (line 1 (not (message_sound register book table c))
    ∷ line 18 (not (is_form form))
    ∷ dossier_lines 0 (reading_table (message_table form) register sender dossier)
    ∷ line 7 (ltb (book_room book) (c.used + length bodies * entry_wide))
    ∷ line 8 (ltb (table_room table) (length (rows_taken bodies table c.rows)))
    ∷ [])
    (0, number_for bodies c.used book, 0, 0)

-- a withdrawal: 1, 10 where no entry has the number, 12 where the sender is neither 0 nor the first entry's, 11 where that has kind 3, 8; else 0
unfoldable pub withdraw_numbers : ℕ → ℕ → List ℕ → List ℕ → Counts → ℕ × ℕ × ℕ × ℕ
withdraw_numbers number sender book table c =
    let entries = message_entries number (updates_in c.used book) in
    first_held
    (line 1 (not (withdraw_sound book table c))
    ∷ line 10 (none entries)
    ∷ line 12 (not (eqb sender 0 || eqb sender (sender_of (get_or entries 0 []))))
    ∷ line 11 (eqb (kind_of (get_or entries 0 [])) 3)
    ∷ line 8 (ltb (table_room table) (length (rows_without number book c.used table c.rows)))
    ∷ [])
    (0, 0, 0, 0)

-- open: 2, 3, 15, 4, 5 of the planning, then of the calendar, then 7 by the joined pairs, 9 where a key arises twice, 8; else 0
unfoldable pub open_numbers : List ℕ → List ℕ → List ℕ → List ℕ → ℕ × ℕ × ℕ × ℕ
open_numbers planning calendar book table =
    let pairs = length (passages_of planning calendar) in
    first_held
    (dossier_lines 1 (reading_table Tables.Planning [] 0 planning)
    ∷ dossier_lines 2 (reading_table Tables.Calendar [] 0 calendar)
    ∷ line 7 (ltb (book_room book) (pairs * plan_wide))
    ∷ line 9 (not (eqb (length (plan_of planning calendar)) pairs))
    ∷ line 8 (ltb (table_room table) pairs)
    ∷ [])
    (0, 0, 0, 0)

-- what was found in a dossier's parts: of the lines 2 to 6 and 15 the first that holds; else 0, and the number of rows
unfoldable pub kept_table : Feed → ℕ × ℕ × ℕ
kept_table f =
    let s = f.lines in
    first_held
    ((ltb largest f.at, (2, 0, 0))
    ∷ (is_line f.fault, (3, f.fault - 1, 0))
    ∷ (not (accepting f.machine), (3, f.at, 0))
    ∷ (is_line f.long, (15, f.long, 0))
    ∷ (is_line s.form, (4, s.form, 0))
    ∷ (is_line s.wrong, (5, s.wrong, s.column))
    ∷ (is_line s.owner, (6, s.owner, 0))
    ∷ [])
    (0, s.rows, 0)

-- the end of a dossier in parts: 1, 18, then 2, 3, 15, 4, 5, 6 as found in them, 6 by the register of now, 14, then 7, then 8; else 0 and its number
unfoldable pub end_numbers : List ℕ → List ℕ → List ℕ → List ℕ → Counts → List ℕ → ℕ × ℕ × ℕ × ℕ
end_numbers register staging book table c kept =
    let f = feed_of kept in
    let bodies = staged_rows staging f in
    first_held
    (line 1 (not (end_sound register staging book table c kept))
    ∷ line 18 (not (is_form f.form))
    ∷ dossier_lines 0 (kept_table f)
    ∷ line 6 (any_denied register f.sender bodies)
    ∷ line 14 (falls_short staging f)
    ∷ line 7 (ltb (book_room book) (c.used + length bodies * entry_wide))
    ∷ line 8 (ltb (table_room table) (length (rows_taken bodies table c.rows)))
    ∷ [])
    (0, number_for bodies c.used book, 0, 0)
