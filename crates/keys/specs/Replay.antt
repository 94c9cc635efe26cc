-- What updates make of rows, over any row rule: `rule held u` is the row that the update u makes of the held row. Here as in `get`, [] for a row says that there is none.
-- Assumes nothing.
use Rattle.std.specs.Prelude.{ℕ, List, [], ◌∷◌}
use Rattle.lists.specs.Logic.{on}
use Rattle.lists.specs.Text.{same}
use Rattle.passage.specs.Layout.{key_of}
use Rattle.keys.specs.Sorted.{get, put, remove}

-- a row rule: the held row, [] for none, and an update's body give a row
abbrev pub Rule : Type 0
Rule = List ℕ → List ℕ → List ℕ

-- one update taken into the rows: it changes the row of its key
unfoldable pub taken : Rule → List ℕ → List (List ℕ) → List (List ℕ)
taken rule u rs = put (rule (get (key_of u) rs) u) rs

-- updates taken one after another
unfoldable pub taken_all : Rule → List (List ℕ) → List (List ℕ) → List (List ℕ)
taken_all rule [] rs = rs
taken_all rule (u ∷ us) rs = taken_all rule us (taken rule u rs)

-- what becomes of one key's row by the updates of that key, in their order; it begins as `held`, [] for none
unfoldable pub replayed : Rule → List ℕ → List ℕ → List (List ℕ) → List ℕ
replayed rule k held [] = held
replayed rule k held (u ∷ us) = replayed rule k (on (same (key_of u) k) (rule held u) held) us

-- the row of key k becomes r; where r is [], no row, it leaves
abbrev pub becoming : List ℕ → List ℕ → List (List ℕ) → List (List ℕ)
becoming k [] rs = remove k rs
becoming k (b ∷ r) rs = put (b ∷ r) rs

-- the rows of these keys become what f gives
unfoldable pub reworked : (List ℕ → List ℕ) → List (List ℕ) → List (List ℕ) → List (List ℕ)
reworked f [] rs = rs
reworked f (k ∷ ks) rs = reworked f ks (becoming k (f k) rs)
