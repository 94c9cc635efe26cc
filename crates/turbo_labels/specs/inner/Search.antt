-- How the search goes through the columns. Assumes nothing.
use Rattle.std.specs.Prelude.{ℕ, suc, ◌<◌, ◌≡◌, Bool, List, [], ◌∷◌, Option, Some, None, Result, Ok, Err, length, get_or}
use Rattle.lists.specs.Logic.{on}
use Rattle.lists.specs.Text.{same}
use Rattle.turbo.specs.Split.{until, tail_at}
use Rattle.turbo_labels.specs.declared.Repeated.{Repeated}
use Rattle.turbo_labels.specs.Columns.{repeated}

-- a find at place k, behind the one before it
abbrev pub found_at : Option ℕ → ℕ → Result (Option ℕ) Repeated
found_at None k = Ok (Some k)
found_at (Some p) k = Err repeated

-- one column more: k is its place, hit says that it has the name, and found is where the name was seen
abbrev pub seen_after : Option ℕ → ℕ → Bool → Result (Option ℕ) Repeated
seen_after found k hit = on hit (found_at found k) (Ok found)

-- goes on from a column, unless the name stands twice
abbrev pub seen_by : {A B : Type 0} → Result A Repeated → (A → Result B Repeated) → Result B Repeated
seen_by (Ok a) f = f a
seen_by (Err e) f = Err e

-- the columns fs from place k on
unfoldable pub sought : Option ℕ → ℕ → List ℕ → List (List ℕ) → Result (Option ℕ) Repeated
sought found k w [] = Ok found
sought found k w (f ∷ fs) = seen_by (seen_after found k (same f w)) (λ at. sought at (suc k) w fs)

-- the sizes of the first labels
abbrev pub Measured : List ℕ → List ℕ → Type 0
Measured labels sizes = (k : ℕ) → k < length sizes → get_or sizes k 0 ≡ length (until 124 (tail_at k labels))
