-- Where the rows of an owner begin. Assumes nothing.
use Rattle.std.specs.Prelude.{ℕ, List, replicate, Result, Ok, Err}
use Rattle.lists.specs.Part.{over}
use Rattle.passage.specs.Layout.{key_wide}
use Rattle.keys.specs.Sorted.{lookup}

-- the place of a key that was looked up, there or missing
abbrev pub place_found : Result ℕ ℕ → ℕ
place_found (Ok i) = i
place_found (Err i) = i

-- the place of the least key that an owner, padded, can have
unfoldable pub first_owned : List ℕ → List (List ℕ) → ℕ
first_owned owner rs = place_found (lookup (over 0 owner (replicate key_wide 0)) rs)
