-- The entries of the book: how each lies in bytes, and how used bytes split into them. Assumes nothing.
use Rattle.std.specs.Prelude.{ℕ, suc, ◌+◌, ◌-◌, ◌*◌, ◌/◌, List, [], ◌∷◌, ◌++◌, map, eqb, drop, get_or}
use Rattle.lists.specs.Logic.{on}
use Rattle.lists.specs.Part.{part}
use Rattle.lists.specs.Rows.{rows_of}
use Rattle.lists.specs.BigEndian.{number, spelled}
use Rattle.passage.specs.Layout.{body_wide}

-- every entry begins with its kind
abbrev pub kind_wide : ℕ
kind_wide = 1

-- ---- plan entries: kind 1, then a body

abbrev pub plan_wide : ℕ
plan_wide = kind_wide + body_wide

abbrev pub plan_body_of : List ℕ → List ℕ
plan_body_of e = part kind_wide body_wide e

abbrev pub plan_entry : List ℕ → List ℕ
plan_entry body = 1 ∷ body

-- ---- updates: kind 2 standing or 3 withdrawn, message number, sender, then a body

abbrev pub number_offset : ℕ
number_offset = kind_wide

abbrev pub number_wide : ℕ
number_wide = 4

abbrev pub sender_offset : ℕ
sender_offset = number_offset + number_wide

abbrev pub body_at : ℕ
body_at = sender_offset + 1

abbrev pub entry_wide : ℕ
entry_wide = body_at + body_wide

-- the kind of any entry
abbrev pub kind_of : List ℕ → ℕ
kind_of e = get_or e 0 0

abbrev pub number_of : List ℕ → ℕ
number_of e = number (part number_offset number_wide e)

abbrev pub sender_of : List ℕ → ℕ
sender_of e = get_or e sender_offset 0

abbrev pub entry_body : List ℕ → List ℕ
entry_body e = part body_at body_wide e

-- a standing entry of message n from a sender
unfoldable pub entry_of : ℕ → ℕ → List ℕ → List ℕ
entry_of n sender body = 2 ∷ spelled number_wide n ++ sender ∷ body

-- the entries of a message
unfoldable pub entries_of : ℕ → ℕ → List (List ℕ) → List (List ℕ)
entries_of n sender bodies = map (entry_of n sender) bodies

-- ---- the split of used bytes: plan entries first, then updates

-- how many of these begin with kind 1 before the first that does not
unfoldable pub leading : List (List ℕ) → ℕ
leading [] = 0
leading (e ∷ es) = on (eqb (kind_of e) 1) (suc (leading es)) 0

-- how many plan entries the used bytes begin with
unfoldable pub plan_count : ℕ → List ℕ → ℕ
plan_count used b = leading (rows_of plan_wide (used / plan_wide) b)

-- the bytes that are left for updates
abbrev pub behind_plans : ℕ → List ℕ → ℕ
behind_plans used b = used - plan_count used b * plan_wide

unfoldable pub plans_in : ℕ → List ℕ → List (List ℕ)
plans_in used b = rows_of plan_wide (plan_count used b) b

unfoldable pub updates_in : ℕ → List ℕ → List (List ℕ)
updates_in used b = rows_of entry_wide (behind_plans used b / entry_wide) (drop (plan_count used b * plan_wide) b)

-- the bodies of the plan
abbrev pub plan_bodies : ℕ → List ℕ → List (List ℕ)
plan_bodies used b = map plan_body_of (plans_in used b)
