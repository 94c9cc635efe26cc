-- Rows, updates or bodies of some keys alone. Assumes nothing.
use Rattle.std.specs.Prelude.{ℕ, Bool, List, [], ◌∷◌}
use Rattle.lists.specs.Logic.{on}
use Rattle.passage.specs.Layout.{key_of}

-- those whose key has P
unfoldable pub kept : (List ℕ → Bool) → List (List ℕ) → List (List ℕ)
kept P [] = []
kept P (r ∷ rs) = on (P (key_of r)) (r ∷ kept P rs) (kept P rs)
