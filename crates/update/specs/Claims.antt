-- What is claimed of statuses and of the row rule, for a held row h, [] for none, and an update u. Assumes nothing.
use Rattle.std.specs.Prelude.{◌≡◌, Bool, true, false, List, [], ◌∷◌, ◌⊎◌, ℕ, get_or, length}
use Rattle.passage.specs.Layout.{body_wide, row_wide, key_of, destination_of, stamp_of, status_of, arrival_of, departure_of, stop_type_of, show_cancelled_of, flexible_of, monitored_of, heard_of}
use Rattle.passage.specs.Ranges.{update_in_range, row_in_range}
use Rattle.update.specs.Moves.{may_move}
use Rattle.update.specs.Rule.{begun, row_rule}

-- ---- statuses

abbrev J : Bool
J = true

abbrev N : Bool
N = false

-- From and to PLANNED, CANCEL, UNKNOWN, DRIVING, ARRIVED, PASSED: where the status moves.
abbrev pub moves : List (List Bool)
moves =
    (N ∷ J ∷ J ∷ J ∷ J ∷ J ∷ [])
    ∷ (J ∷ J ∷ N ∷ J ∷ J ∷ J ∷ [])
    ∷ (N ∷ J ∷ J ∷ J ∷ J ∷ J ∷ [])
    ∷ (N ∷ J ∷ J ∷ J ∷ J ∷ J ∷ [])
    ∷ (N ∷ J ∷ J ∷ N ∷ J ∷ J ∷ [])
    ∷ (N ∷ N ∷ N ∷ N ∷ J ∷ J ∷ [])
    ∷ []

-- The status moves where that table has J, and nowhere else, whatever two numbers are asked.
abbrev pub MovesByTable : Type 0
MovesByTable = (held said : ℕ) → may_move held said ≡ get_or (get_or moves held []) said N

-- ---- the row rule

-- The update changes no key: the row that it makes has the update's.
abbrev pub KeepsKey : Type 0
KeepsKey = (h u : List ℕ) → length u ≡ body_wide → key_of (row_rule h u) ≡ key_of u

-- It makes a whole row.
abbrev pub RowWide : Type 0
RowWide = (h u : List ℕ) → length u ≡ body_wide → length (row_rule h u) ≡ row_wide

-- Heard becomes 1.
abbrev pub Heard : Type 0
Heard = (h u : List ℕ) → length u ≡ body_wide → heard_of (row_rule h u) ≡ 1

-- Destination, timestamp, times and stop type become the update's, whatever the status does.
abbrev pub ReplacesRest : Type 0
ReplacesRest =
    (h u : List ℕ)
    → length u ≡ body_wide
    → (destination_of (row_rule h u) ≡ destination_of u)
    × (stamp_of (row_rule h u) ≡ stamp_of u)
    × (arrival_of (row_rule h u) ≡ arrival_of u)
    × (departure_of (row_rule h u) ≡ departure_of u)
    × (stop_type_of (row_rule h u) ≡ stop_type_of u)

-- Where the table has J the status becomes the update's, else the held one stays.
abbrev pub StatusByTable : Type 0
StatusByTable =
    (h u : List ℕ)
    → length u ≡ body_wide
    → let letter = get_or (get_or moves (status_of (begun h)) []) (status_of u) N in
    (letter ≡ J → status_of (row_rule h u) ≡ status_of u) × (letter ≡ N → status_of (row_rule h u) ≡ status_of (begun h))

-- Of an optional, 255 in the update leaves what is held; anything else is taken.
abbrev pub LeavesOrTakes : ℕ → ℕ → ℕ → Type 0
LeavesOrTakes held said becomes = (said ≡ 255 → becomes ≡ held) × ((said ≡ 255 → ⊥) → becomes ≡ said)

-- So it is with show cancelled, flexible and monitored.
abbrev pub OptionalsKeep : Type 0
OptionalsKeep =
    (h u : List ℕ)
    → length u ≡ body_wide
    → LeavesOrTakes (show_cancelled_of (begun h)) (show_cancelled_of u) (show_cancelled_of (row_rule h u))
    × LeavesOrTakes (flexible_of (begun h)) (flexible_of u) (flexible_of (row_rule h u))
    × LeavesOrTakes (monitored_of (begun h)) (monitored_of u) (monitored_of (row_rule h u))

-- A row that is held is changed as it stands.
abbrev pub HeldIsChanged : Type 0
HeldIsChanged = (b : ℕ) (r : List ℕ) → begun (b ∷ r) ≡ b ∷ r

-- A passage that is missing begins as PLANNED, show cancelled 1, flexible 0, monitored 0.
abbrev pub BeginsPlanned : Type 0
BeginsPlanned =
    (status_of (begun []) ≡ 0)
    × (show_cancelled_of (begun []) ≡ 1)
    × (flexible_of (begun []) ≡ 0)
    × (monitored_of (begun []) ≡ 0)

-- An update in range makes a row in range, of none or of a row in range.
abbrev pub InRange : Type 0
InRange =
    (h u : List ℕ)
    → length u ≡ body_wide
    → update_in_range u ≡ true
    → (h ≡ []) ⊎ (row_in_range h ≡ true)
    → row_in_range (row_rule h u) ≡ true

-- P5: ARRIVED, 4, then DRIVING, 3, stays ARRIVED; PASSED, 5, then ARRIVED is ARRIVED.
abbrev pub ArrivedStays : Type 0
ArrivedStays =
    (h u : List ℕ)
    → length u ≡ body_wide
    → (status_of (begun h) ≡ 4 → status_of u ≡ 3 → status_of (row_rule h u) ≡ 4)
    × (status_of (begun h) ≡ 5 → status_of u ≡ 4 → status_of (row_rule h u) ≡ 4)

-- All of them.
abbrev pub All : Type 0
All =
    MovesByTable
    × KeepsKey
    × RowWide
    × Heard
    × ReplacesRest
    × StatusByTable
    × OptionalsKeep
    × HeldIsChanged
    × BeginsPlanned
    × InRange
    × ArrivedStays
