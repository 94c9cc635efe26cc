-- A day as a file. Assumes nothing.
use Rattle.std.specs.Prelude.{ℕ, ◌+◌, ◌*◌, Bool, false, List, [], ◌∷◌, ◌++◌, eqb, ltb, length, take, drop}
use Rattle.lists.specs.Logic.{on}
use Rattle.lists.specs.Text.{bytes, same}
use Rattle.lists.specs.Part.{part}
use Rattle.lists.specs.BigEndian.{number, spelled}
use Rattle.register.specs.Register.{register_sound}
use Rattle.book.specs.Rules.{book_sound}
use Rattle.table.specs.Rules.{table_sound}
use Rattle.script_text.specs.Rules.{appended}
use Rattle.boards_saved.specs.declared.Saved.{Saved}
use Rattle.boards_saved.specs.declared.Saved.TheVariants.{Day, Other}

-- name and version, an LF behind them
abbrev pub name : List ℕ
name = bytes "zhemdurak day 1" ++ 10 ∷ []

-- behind the name: used bytes of register and book, rows of the table
unfoldable pub heading_of : ℕ → ℕ → ℕ → List ℕ
heading_of pairs used rows = name ++ (spelled 4 pairs ++ (spelled 4 used ++ spelled 4 rows))

abbrev pub heading_wide : ℕ
heading_wide = 28

-- register, book and table, used bytes alone, as a file
unfoldable pub file_of : List ℕ → List ℕ → List ℕ → ℕ → List ℕ
file_of register book table rows = heading_of (length register) (length book) rows ++ (register ++ (book ++ table))

-- what a file's heading says
unfoldable pub pairs_in : List ℕ → ℕ
pairs_in file = number (part 16 4 file)

unfoldable pub used_in : List ℕ → ℕ
used_in file = number (part 20 4 file)

unfoldable pub rows_in : List ℕ → ℕ
rows_in file = number (part 24 4 file)

-- from one byte on, up to another
abbrev pub between : ℕ → ℕ → List ℕ → List ℕ
between from end file = drop from (take end file)

-- the parts of a file
abbrev pub register_in : List ℕ → List ℕ
register_in file = between 28 (28 + pairs_in file) file

abbrev pub book_in : List ℕ → List ℕ
book_in file = between (28 + pairs_in file) (28 + pairs_in file + used_in file) file

abbrev pub table_in : List ℕ → List ℕ
table_in file = between (28 + pairs_in file + used_in file) (28 + pairs_in file + used_in file + rows_in file * 67) file

-- each part is sound, as a message asks it of what it is lent
unfoldable pub parts_sound : List ℕ → List ℕ → ℕ → List ℕ → ℕ → Bool
parts_sound register book used table rows = on (register_sound register) (on (book_sound used book) (table_sound rows table) false) false

-- behind a heading that says this there are as many bytes, and they are sound
unfoldable pub whole_day : ℕ → ℕ → ℕ → List ℕ → Bool
whole_day pairs used rows file =
    on (eqb (length file) (28 + pairs + used + rows * 67))
    (parts_sound
    (between 28 (28 + pairs) file)
    (between (28 + pairs) (28 + pairs + used) file)
    used
    (between (28 + pairs + used) (28 + pairs + used + rows * 67) file)
    rows)
    false

-- the file has a heading with the name, and is a sound day by its numbers
unfoldable pub is_day : List ℕ → Bool
is_day file = on (ltb (length file) 28) false (on (same (part 0 16 file) name) (whole_day (pairs_in file) (used_in file) (rows_in file) file) false)

-- what a file gives
unfoldable pub day_in : List ℕ → Saved
day_in file = on (is_day file) (Day (pairs_in file) (used_in file) (rows_in file)) Other

-- what is lent, once a file was loaded: its parts in front, where they fit; of a file that is no day nothing
unfoldable pub register_from : List ℕ → List ℕ → List ℕ
register_from file register = on (is_day file) (appended 0 (register_in file) register) register

unfoldable pub book_from : List ℕ → List ℕ → List ℕ
book_from file book = on (is_day file) (appended 0 (book_in file) book) book

unfoldable pub table_from : List ℕ → List ℕ → List ℕ
table_from file table = on (is_day file) (appended 0 (table_in file) table) table
