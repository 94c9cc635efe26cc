-- What is claimed of the table: of its soundness, of where a key stands, and of rows put in and taken out, for any rows and bytes. Assumes nothing.
use Rattle.std.specs.Prelude.{◌≡◌, true, List, [], ◌↔◌, ℕ, ◌+◌, ◌*◌, ◌≤◌, ◌<◌, ◌-◌, length, get_or, drop, replicate, Ok, Err}
use Rattle.lists.specs.Part.{part}
use Rattle.lists.specs.Each.{Each}
use Rattle.lists.specs.Rows.{store}
use Rattle.passage.specs.Layout.{key_of, row_wide}
use Rattle.passage.specs.Facts.{RowFacts}
use Rattle.std.specs.declared.cmp.Ordering.TheVariants.{Less}
use Rattle.keys.specs.Keys.{cmp}
use Rattle.keys.specs.Sorted.{sorted_rows, lookup, get, put, remove}
use Rattle.table.specs.Rules.{table_room, table_sound, rows}

-- ---- soundness

-- the rows n of t: not too many for the size or the bytes, each with its facts, each key below the next
abbrev pub Orderly : ℕ → List ℕ → Type 0
Orderly n t =
    (n ≤ 2048)
    × (n * row_wide ≤ length t)
    × ((i : ℕ) → i < n → RowFacts (part (i * row_wide) row_wide t))
    × ((i : ℕ) → i + 1 < n → cmp (key_of (part (i * row_wide) row_wide t)) (key_of (part ((i + 1) * row_wide) row_wide t)) ≡ Less)

-- sound means this and nothing else
abbrev pub SoundMeansOrderly : Type 0
SoundMeansOrderly = (n : ℕ) (t : List ℕ) → (table_sound n t ≡ true → Orderly n t) × (Orderly n t → table_sound n t ≡ true)

-- there is room for n rows exactly where the bytes hold them and they are not too many
abbrev pub RoomExactly : Type 0
RoomExactly = (n : ℕ) (t : List ℕ) → (n ≤ table_room t) ↔ ((n ≤ 2048) × (n * row_wide ≤ length t))

-- ---- where a key stands

-- a key is found at place i exactly where row i has it, and missing exactly where no row has it
abbrev pub FindExactly : Type 0
FindExactly =
    (k : List ℕ) (rs : List (List ℕ)) → sorted_rows rs ≡ true → (i : ℕ)
    → (lookup k rs ≡ Ok i → (i < length rs) × (key_of (get_or rs i []) ≡ k))
    × (i < length rs → key_of (get_or rs i []) ≡ k → lookup k rs ≡ Ok i)
    × (lookup k rs ≡ Err i → (j : ℕ) → j < length rs → key_of (get_or rs j []) ≡ k → ⊥)

-- each row is got by its key
abbrev pub EachRowIsGot : Type 0
EachRowIsGot = (rs : List (List ℕ)) → sorted_rows rs ≡ true → (i : ℕ) → i < length rs → get (key_of (get_or rs i [])) rs ≡ get_or rs i []

-- ---- rows put in and taken out

-- a row that is put is got by its key, every other key gets what it got, and the keys still rise
abbrev pub PutChangesOnlyItsKey : Type 0
PutChangesOnlyItsKey =
    (r : List ℕ) (rs : List (List ℕ))
    → (get (key_of r) (put r rs) ≡ r)
    × ((k : List ℕ) → (key_of r ≡ k → ⊥) → get k (put r rs) ≡ get k rs)
    × (sorted_rows rs ≡ true → sorted_rows (put r rs) ≡ true)

-- a key that is removed gets nothing, every other key gets what it got, and the keys still rise
abbrev pub RemoveTakesOnlyItsKey : Type 0
RemoveTakesOnlyItsKey =
    (k : List ℕ) (rs : List (List ℕ)) → sorted_rows rs ≡ true
    → (get k (remove k rs) ≡ [])
    × ((j : List ℕ) → (k ≡ j → ⊥) → get j (remove k rs) ≡ get j rs)
    × (sorted_rows (remove k rs) ≡ true)

-- sorted rows, none of them empty, that give each key the same are the same rows
abbrev pub SortedTablesEqual : Type 0
SortedTablesEqual =
    (ps qs : List (List ℕ)) → sorted_rows ps ≡ true → sorted_rows qs ≡ true → Each (λ (r : List ℕ). 0 < length r) ps → Each (λ (r : List ℕ). 0 < length r) qs
    → ((k : List ℕ) → get k ps ≡ get k qs) → ps ≡ qs

-- the bytes of the last row become zero where a row leaves
abbrev pub FreedIsZero : Type 0
FreedIsZero =
    (n : ℕ) (k t : List ℕ) → n * row_wide ≤ length t → (get k (rows n t) ≡ [] → ⊥)
    → part ((n - 1) * row_wide) row_wide (store row_wide n (remove k (rows n t)) t) ≡ replicate row_wide 0

-- the bytes behind the rows before and after keep their contents, and there are as many of them
abbrev pub RestKept : Type 0
RestKept =
    (n : ℕ) (t : List ℕ) → n * row_wide ≤ length t
    → ((r : List ℕ) → length r ≡ row_wide
    → let qs = put r (rows n t) in
    (length (store row_wide n qs t) ≡ length t) × (drop (length qs * row_wide) (store row_wide n qs t) ≡ drop (length qs * row_wide) t))
    × ((k : List ℕ)
    → let qs = remove k (rows n t) in
    (length (store row_wide n qs t) ≡ length t) × (drop (n * row_wide) (store row_wide n qs t) ≡ drop (n * row_wide) t))

-- all of these
abbrev pub All : Type 0
All =
    SoundMeansOrderly
    × RoomExactly
    × FindExactly
    × EachRowIsGot
    × PutChangesOnlyItsKey
    × RemoveTakesOnlyItsKey
    × SortedTablesEqual
    × FreedIsZero
    × RestKept
