-- Rows sorted by key: each begins with its key, and the keys rise strictly. Assumes nothing.
use Rattle.std.specs.Prelude.{◌≡◌, ◌<◌, ℕ, suc, Bool, true, false, ◌&&◌, List, [], ◌∷◌, length, get_or, Result, Ok, Err}
use Rattle.passage.specs.Layout.{key_of}
use Rattle.std.specs.declared.cmp.Ordering.{Ordering}
use Rattle.keys.specs.Keys.{cmp, by_order}

abbrev pub is_less : Ordering → Bool
is_less o = by_order o true false false

-- the keys of rs rise strictly, the first above r's
unfoldable pub rises_from : List ℕ → List (List ℕ) → Bool
rises_from r [] = true
rises_from r (s ∷ rs) = is_less (cmp (key_of r) (key_of s)) && rises_from s rs

-- the keys of the rows rise strictly
unfoldable pub sorted_rows : List (List ℕ) → Bool
unfolding rises_from
sorted_rows [] = true
sorted_rows (r ∷ rs) = rises_from r rs

-- where key k stands among sorted rows, or where its row would be put, if the first row has the place i
unfoldable pub lookup_from : ℕ → List ℕ → List (List ℕ) → Result ℕ ℕ
lookup_from i k [] = Err i
lookup_from i k (r ∷ rs) = by_order (cmp (key_of r) k) (lookup_from (suc i) k rs) (Ok i) (Err i)

-- where key k stands among sorted rows: `Ok i`, row i has it; `Err i`, no row has it, and its row would be put before row i
unfoldable pub lookup : List ℕ → List (List ℕ) → Result ℕ ℕ
lookup k rs = lookup_from 0 k rs

-- what R tells of each place is the order of that row's key and k
abbrev pub Compares : (ℕ → Ordering → Type 0) → List ℕ → List (List ℕ) → Type 0
Compares R k rs = (i : ℕ) (o : Ordering) → i < length rs → R i o → o ≡ cmp (key_of (get_or rs i [])) k

-- the row of key k among sorted rows; [], no bytes, says that there is none: every row begins with its key, so no row is empty
unfoldable pub get : List ℕ → List (List ℕ) → List ℕ
get k [] = []
get k (s ∷ rs) = by_order (cmp (key_of s) k) (get k rs) s []

-- sorted rows with the row r: in its place by key, or in place of the row that has its key
unfoldable pub put : List ℕ → List (List ℕ) → List (List ℕ)
put r [] = r ∷ []
put r (s ∷ rs) = by_order (cmp (key_of s) (key_of r)) (s ∷ put r rs) (r ∷ rs) (r ∷ s ∷ rs)

-- sorted rows without the row of key k; where no row has it, they stay
unfoldable pub remove : List ℕ → List (List ℕ) → List (List ℕ)
remove k [] = []
remove k (s ∷ rs) = by_order (cmp (key_of s) k) (s ∷ remove k rs) rs (s ∷ rs)

-- rows put in one after another: of several with one key the last stands
unfoldable pub put_all : List (List ℕ) → List (List ℕ) → List (List ℕ)
put_all [] rs = rs
put_all (r ∷ qs) rs = put_all qs (put r rs)
