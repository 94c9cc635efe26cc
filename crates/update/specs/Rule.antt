-- The row rule: what an update makes of a passage. Assumes nothing.
use Rattle.std.specs.Prelude.{ℕ, List, [], ◌∷◌, ◌++◌, set, replicate}
use Rattle.passage.specs.Layout.{row_wide, status_at, show_cancelled_at, flexible_at, monitored_at, status_of, show_cancelled_of, flexible_of, monitored_of}
use Rattle.update.specs.Moves.{status_after, keeps}

-- the update u replaces all but the key, and heard becomes 1; the status moves by table 17
unfoldable pub apply_row : List ℕ → List ℕ → List ℕ
apply_row held u =
    set
    (set
    (set
    (set (u ++ 1 ∷ []) status_at (status_after (status_of held) (status_of u)))
    show_cancelled_at
    (keeps (show_cancelled_of held) (show_cancelled_of u)))
    flexible_at
    (keeps (flexible_of held) (flexible_of u)))
    monitored_at
    (keeps (monitored_of held) (monitored_of u))

-- a missing passage begins as PLANNED, show cancelled 1, flexible 0, monitored 0
unfoldable pub beginning : List ℕ
beginning = set (replicate row_wide 0) show_cancelled_at 1

-- what is held, [] for nothing
abbrev pub begun : List ℕ → List ℕ
begun [] = beginning
begun (b ∷ r) = b ∷ r

-- the row rule: the row that the update u makes of the held row, or of none
unfoldable pub row_rule : List ℕ → List ℕ → List ℕ
row_rule held u = apply_row (begun held) u
