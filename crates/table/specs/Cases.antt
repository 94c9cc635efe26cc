-- The table's rules run on small examples. Assumes nothing.
use Rattle.std.specs.Prelude.{◌≡◌, refl, true, false, List, [], ◌∷◌, ℕ, ◌+◌, ◌*◌, replicate, Ok, Err}
use Rattle.lists.specs.Part.{part, onto}
use Rattle.lists.specs.Rows.{rows_of, flat, store}
use Rattle.passage.specs.Layout.{row_wide}
use Rattle.keys.specs.Keys.{cmp}
use Rattle.keys.specs.Sorted.{rises_from, sorted_rows, lookup_from, lookup, get, put, remove}
use Rattle.table.specs.Rules.{table_room, all_in_range, table_sound}

-- three bytes are no room for a row; two rows and some bytes are room for two
room-case : (table_room (1 ∷ 2 ∷ 3 ∷ []) ≡ 0) × (table_room (replicate (2 * row_wide + 16) 0) ≡ 2)
unfolding table_room
room-case = (refl, refl)

-- no rows are sound in any bytes; a row that the bytes do not hold is not
none-case : (table_sound 0 [] ≡ true) × (table_sound 1 (replicate 66 0) ≡ false)
unfolding table_sound table_room all_in_range sorted_rows rows_of
none-case = (refl, refl)

-- short rows stand for rows from here on: each is its own key
short : List (List ℕ)
short = (1 ∷ 2 ∷ []) ∷ (3 ∷ 0 ∷ []) ∷ []

sorted-case : (sorted_rows short ≡ true) × (sorted_rows ((3 ∷ []) ∷ (3 ∷ []) ∷ []) ≡ false)
unfolding sorted_rows rises_from cmp part short
sorted-case = (refl, refl)

lookup-case : (lookup (3 ∷ 0 ∷ []) short ≡ Ok 1) × (lookup (2 ∷ 9 ∷ []) short ≡ Err 1)
unfolding lookup lookup_from cmp part short
lookup-case = (refl, refl)

get-case : (get (3 ∷ 0 ∷ []) short ≡ 3 ∷ 0 ∷ []) × (get (2 ∷ []) short ≡ [])
unfolding get cmp part short
get-case = (refl, refl)

put-case : put (2 ∷ 9 ∷ []) short ≡ (1 ∷ 2 ∷ []) ∷ (2 ∷ 9 ∷ []) ∷ (3 ∷ 0 ∷ []) ∷ []
unfolding put cmp part short
put-case = refl

-- the row leaves, what stands behind it moves up, its old place becomes zero and the byte behind the rows stays
remove-case : store 2 2 (remove (1 ∷ 2 ∷ []) (rows_of 2 2 (1 ∷ 2 ∷ 3 ∷ 0 ∷ 5 ∷ []))) (1 ∷ 2 ∷ 3 ∷ 0 ∷ 5 ∷ []) ≡ 3 ∷ 0 ∷ 0 ∷ 0 ∷ 5 ∷ []
unfolding remove cmp part rows_of store onto flat
remove-case = refl
