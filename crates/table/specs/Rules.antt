-- The table: rows of passages, sorted by key, in lent bytes. How many there may be, and when they are sound. Assumes nothing.
use Rattle.std.specs.Prelude.{ℕ, ◌/◌, Bool, true, ◌&&◌, List, [], ◌∷◌, leb, length}
use Rattle.lists.specs.Logic.{on}
use Rattle.lists.specs.Rows.{rows_of}
use Rattle.passage.specs.Layout.{row_wide}
use Rattle.passage.specs.Ranges.{row_in_range}
use Rattle.keys.specs.Sorted.{sorted_rows}

-- a table has at most so many rows, however long the lent bytes
abbrev pub most_rows : ℕ
most_rows = 2048

-- the rows that the bytes t have room for
unfoldable pub table_room : List ℕ → ℕ
table_room t = on (leb (length t / row_wide) most_rows) (length t / row_wide) most_rows

-- the first n rows
abbrev pub rows : ℕ → List ℕ → List (List ℕ)
rows n t = rows_of row_wide n t

-- each row has every field in its range
unfoldable pub all_in_range : List (List ℕ) → Bool
all_in_range [] = true
all_in_range (r ∷ rs) = row_in_range r && all_in_range rs

-- n rows have room, each is in its range, and their keys rise
unfoldable pub table_sound : ℕ → List ℕ → Bool
table_sound n t = leb n (table_room t) && all_in_range (rows n t) && sorted_rows (rows n t)
