-- Updates taken only where their rows fit: how many keys are missing at first, and what is answered and left. Assumes nothing.
use Rattle.std.specs.Prelude.{ℕ, ◌+◌, List, [], ◌∷◌, leb, length, Option, Some, None}
use Rattle.lists.specs.Logic.{on}
use Rattle.lists.specs.Rows.{store}
use Rattle.passage.specs.Layout.{row_wide, key_of}
use Rattle.keys.specs.Sorted.{get}

-- at most so many updates are taken at once: the rows of the longest dossier
abbrev pub most_updates : ℕ
most_updates = 2427

-- 1 for no row
abbrev pub one_if_none : List ℕ → ℕ
one_if_none [] = 1
one_if_none (b ∷ r) = 0

-- how many of the updates have a key that the rows lack
unfoldable pub absent : List (List ℕ) → List (List ℕ) → ℕ
absent [] rs = 0
absent (u ∷ us) rs = one_if_none (get (key_of u) rs) + absent us rs

-- the rows rs, if they are at most so many
unfoldable pub fitting : ℕ → List (List ℕ) → Option ℕ
fitting most rs = on (leb (length rs) most) (Some (length rs)) None

-- the bytes t of a table of n rows, with the rows rs if they are at most so many
unfoldable pub fitting_in : ℕ → ℕ → List (List ℕ) → List ℕ → List ℕ
fitting_in n most rs t = on (leb (length rs) most) (store row_wide n rs t) t
