-- Where a status moves, and what an optional keeps. Assumes nothing.
use Rattle.std.specs.Prelude.{ℕ, Bool, List, [], ◌∷◌, eqb, get_or}
use Rattle.lists.specs.Logic.{on}
use Rattle.lists.specs.Text.{bytes}
use Rattle.passage.specs.Layout.{kept}

-- 003's table 17: a line for each status held, a letter for each status said, in the order PLANNED, CANCEL, UNKNOWN, DRIVING, ARRIVED, PASSED
unfoldable pub table17 : List (List ℕ)
table17 =
    bytes "NJJJJJ"
    ∷ bytes "JJNJJJ"
    ∷ bytes "NJJJJJ"
    ∷ bytes "NJJJJJ"
    ∷ bytes "NJJNJJ"
    ∷ bytes "NNNNJJ"
    ∷ []

-- the status moves where the table has J
unfoldable pub may_move : ℕ → ℕ → Bool
may_move held said = eqb (get_or (get_or table17 held []) said 0) 74

-- N keeps the held status
abbrev pub status_after : ℕ → ℕ → ℕ
status_after held said = on (may_move held said) said held

-- an optional that is absent keeps the held content
abbrev pub keeps : ℕ → ℕ → ℕ
keeps held said = on (eqb said kept) held said
