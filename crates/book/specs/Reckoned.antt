-- The table worked out from a book alone, key by key. Assumes nothing.
use Rattle.std.specs.Prelude.{ℕ, List, ◌++◌, [], map}
use Rattle.passage.specs.Layout.{key_of}
use Rattle.keys.specs.Sorted.{put_all}
use Rattle.keys.specs.Replay.{Rule}
use Rattle.book.specs.Rules.{standing, plan_rows, row_for}

-- the keys of a plan and of standing updates, sorted, each once
unfoldable pub keys_in : List (List ℕ) → List (List ℕ) → List (List ℕ)
keys_in bodies us = put_all (map key_of (plan_rows bodies) ++ map key_of (standing us)) []

-- for each key its plan entry and its standing entries in order
unfoldable pub reckoned : Rule → List (List ℕ) → List (List ℕ) → List (List ℕ)
reckoned rule bodies us = map (row_for rule bodies us) (keys_in bodies us)
