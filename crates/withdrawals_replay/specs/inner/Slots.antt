-- Slots: of each passage that a message names, its row, or that there is none; and what they make of a table's rows. Assumes nothing.
use Rattle.std.specs.Prelude.{ℕ, ◌+◌, ◌/◌, Bool, List, [], ◌∷◌, eqb, get_or}
use Rattle.lists.specs.Logic.{on}
use Rattle.lists.specs.Part.{part}
use Rattle.lists.specs.Rows.{rows_of}
use Rattle.passage.specs.Layout.{key_wide, row_wide}
use Rattle.keys.specs.Sorted.{get, put, remove}
use Rattle.book.specs.Entries.{entry_wide}
use Rattle.book.specs.Rules.{most_bytes}

-- a slot: one byte, 1 where there is a row; then the row, or else its key and zero bytes
abbrev pub slot_wide : ℕ
slot_wide = 1 + row_wide

-- at most so many are weighed: as many as a book has entries
abbrev pub most_slots : ℕ
most_slots = most_bytes / entry_wide

-- the first c slots
abbrev pub slots_of : ℕ → List ℕ → List (List ℕ)
slots_of c s = rows_of slot_wide c s

abbrev pub has_row : List ℕ → Bool
has_row s = eqb (get_or s 0 0) 1

abbrev pub slot_key : List ℕ → List ℕ
slot_key s = part 1 key_wide s

-- the row, or none, []
unfoldable pub slot_row : List ℕ → List ℕ
slot_row s = on (has_row s) (part 1 row_wide s) []

-- ---- slots taken into the rows of a table

-- a slot without a row removes that of its key
abbrev pub remove_one : List ℕ → List (List ℕ) → List (List ℕ)
remove_one s rs = on (has_row s) rs (remove (slot_key s) rs)

unfoldable pub removals : List (List ℕ) → List (List ℕ) → List (List ℕ)
removals [] rs = rs
removals (s ∷ ss) rs = removals ss (remove_one s rs)

-- a slot with a row puts it
abbrev pub put_one : List ℕ → List (List ℕ) → List (List ℕ)
put_one s rs = on (has_row s) (put (part 1 row_wide s) rs) rs

unfoldable pub puts : List (List ℕ) → List (List ℕ) → List (List ℕ)
puts [] rs = rs
puts (s ∷ ss) rs = puts ss (put_one s rs)

-- first those without a row, then those with one
abbrev pub settled : List (List ℕ) → List (List ℕ) → List (List ℕ)
settled ss rs = puts ss (removals ss rs)

-- ---- how many rows there are then: each slot adds one for itself, one for a row that it has, and takes one for a row that the table has

abbrev pub weight : List ℕ → List ℕ → ℕ
weight [] [] = 1
weight [] (b ∷ r) = 2
weight (x ∷ l) [] = 0
weight (x ∷ l) (b ∷ r) = 1

unfoldable pub weights : List (List ℕ) → List (List ℕ) → ℕ
weights rs [] = 0
weights rs (s ∷ ss) = weight (get (slot_key s) rs) (slot_row s) + weights rs ss
