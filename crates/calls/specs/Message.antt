-- Message: what is answered, and what becomes of book, table and counts. Assumes nothing.
use Rattle.std.specs.Prelude.{ℕ, ◌+◌, ◌*◌, Bool, ◌&&◌, List, eqb, leb, length, Ok, Err}
use Rattle.lists.specs.Logic.{on}
use Rattle.lists.specs.Part.{over}
use Rattle.lists.specs.Rows.{rows_of, flat, store}
use Rattle.passage.specs.Layout.{row_wide}
use Rattle.register.specs.Register.{register_sound}
use Rattle.columns.specs.declared.Table.{Table}
use Rattle.columns.specs.declared.Table.TheVariants as Tables
use Rattle.columns.specs.Tables.{is_form, form_of}
use Rattle.reader.specs.Rules.{reading_of, items_of, data_rows}
use Rattle.keys.specs.Replay.{taken_all}
use Rattle.update.specs.Rule.{row_rule}
use Rattle.table.specs.Rules.{table_sound, table_room}
use Rattle.book.specs.Entries.{entry_wide, entries_of, updates_in}
use Rattle.book.specs.Rules.{book_sound, book_room, next_number}
use Rattle.calls.specs.declared.Refusal.TheVariants.{Unsound, BookShort, TableShort, UnknownForm}
use Rattle.calls.specs.declared.Counts.{Counts}
use Rattle.calls.specs.Answers.{Answer, unless_refused}
use Rattle.calls.specs.Leaves.{Leaves, counts_of, day_of, leaves_by}

-- 1: what a message is lent
unfoldable pub message_sound : List ℕ → List ℕ → List ℕ → Counts → Bool
message_sound register book table c = register_sound register && (book_sound c.used book && table_sound c.rows table)

-- the wanted table of a message, by the form that is stated with it
abbrev pub message_table : ℕ → Table
message_table form = Tables.Message (form_of form)

-- the rows of a message, as update bodies in the dossier's order
unfoldable pub message_rows : ℕ → List ℕ → List (List ℕ)
message_rows form dossier = data_rows (message_table form) (items_of (message_table form) dossier)

-- the number that a book gives next, and that of a message: 0 where it has no rows
abbrev pub next_in : ℕ → List ℕ → ℕ
next_in used book = next_number (updates_in used book)

abbrev pub number_for : List (List ℕ) → ℕ → List ℕ → ℕ
number_for bodies used book = on (eqb (length bodies) 0) 0 (next_in used book)

-- the table's rows once the bodies are applied, in order
abbrev pub rows_taken : List (List ℕ) → List ℕ → ℕ → List (List ℕ)
rows_taken bodies table n = taken_all row_rule bodies (rows_of row_wide n table)

-- 7, 8, or acceptance
unfoldable pub room_for : List (List ℕ) → List ℕ → List ℕ → Counts → Answer
room_for bodies book table c =
    on (leb (c.used + length bodies * entry_wide) (book_room book))
    (on (leb (length (rows_taken bodies table c.rows)) (table_room table)) (Ok (number_for bodies c.used book)) (Err TableShort))
    (Err BookShort)

-- 18 for a form that is not known, before the dossier is looked at
unfoldable pub message_answer : List ℕ → ℕ → ℕ → List ℕ → List ℕ → List ℕ → Counts → Answer
message_answer dossier sender form register book table c =
    on (message_sound register book table c)
    (on (is_form form)
    (unless_refused 0 (reading_of (message_table form) register sender dossier) (room_for (message_rows form dossier) book table c))
    (Err UnknownForm))
    (Err Unsound)

-- ---- afterwards

-- the book with the entries of message n behind its used bytes
unfoldable pub book_taking : ℕ → List (List ℕ) → ℕ → List ℕ → ℕ → List ℕ
book_taking n bodies sender book used = over used (flat (entries_of n sender bodies)) book

unfoldable pub table_taking : List (List ℕ) → List ℕ → ℕ → List ℕ
table_taking bodies table n = store row_wide n (rows_taken bodies table n) table

abbrev pub counts_taking : List (List ℕ) → List ℕ → Counts → Counts
counts_taking bodies table c = counts_of (c.used + length bodies * entry_wide) (length (rows_taken bodies table c.rows))

-- what an answer leaves: the bodies taken, or the day as it was
unfoldable pub taken_by : Answer → List (List ℕ) → ℕ → List ℕ → List ℕ → Counts → Leaves
taken_by answer bodies sender book table c =
    leaves_by answer
    (day_of (book_taking (next_in c.used book) bodies sender book c.used) (table_taking bodies table c.rows) (counts_taking bodies table c))
    (day_of book table c)

unfoldable pub message_leaves : List ℕ → ℕ → ℕ → List ℕ → List ℕ → List ℕ → Counts → Leaves
message_leaves dossier sender form register book table c =
    taken_by (message_answer dossier sender form register book table c) (message_rows form dossier) sender book table c
