-- The search for column names in a label line. Names are compared as raw bytes. Assumes nothing.
use Rattle.std.specs.Prelude.{ℕ, suc, Bool, true, false, List, [], ◌∷◌, Result, Ok, Err, set, replicate, leb, ltb}
use Rattle.lists.specs.Logic.{on}
use Rattle.lists.specs.Text.{same}
use Rattle.turbo.specs.Split.{field_at}
use Rattle.turbo_labels.specs.declared.Repeated.{Repeated}

-- how often w stands among the names fs
unfoldable pub count : List ℕ → List (List ℕ) → ℕ
count w [] = 0
count w (f ∷ fs) = on (same f w) (suc (count w fs)) (count w fs)

-- where w stands first among the names; their number where it does not
unfoldable pub column_of : List ℕ → List (List ℕ) → ℕ
column_of w [] = 0
column_of w (f ∷ fs) = on (same f w) 0 (suc (column_of w fs))

-- a line's field in a column that was found by its name, as `column_of` gives it among so many columns: no bytes where the name is missing
unfoldable pub field_under : ℕ → ℕ → List ℕ → List ℕ
field_under column columns line = on (ltb column columns) (field_at column line) []

-- a name stands twice
abbrev pub repeated : Repeated
repeated = record {}

-- where w stands among the names, their number where it does not; not where it stands twice
unfoldable pub place_of : List ℕ → List (List ℕ) → Result ℕ Repeated
place_of w fs = on (leb 2 (count w fs)) (Err repeated) (Ok (column_of w fs))

-- how many names a table's reader can want
abbrev pub most : ℕ
most = 20

-- one of the names ws stands twice among the names fs
unfoldable pub any_twice : List (List ℕ) → List (List ℕ) → Bool
any_twice [] fs = false
any_twice (w ∷ ws) fs = on (leb 2 (count w fs)) true (any_twice ws fs)

-- the places of the names ws, written into ps from i on
unfoldable pub places_from : ℕ → List (List ℕ) → List (List ℕ) → List ℕ → List ℕ
places_from i [] fs ps = ps
places_from i (w ∷ ws) fs ps = places_from (suc i) ws fs (set ps i (column_of w fs))

-- what the search for the names ws answers: the place of each, and 0 behind the last; not where a name stands twice
unfoldable pub columns_of : List (List ℕ) → List (List ℕ) → Result (List ℕ) Repeated
columns_of ws fs = on (any_twice ws fs) (Err repeated) (Ok (places_from 0 ws fs (replicate most 0)))
