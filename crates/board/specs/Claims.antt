-- What is claimed of boards, for any table and question. Assumes nothing.
use Rattle.std.specs.Prelude.{◌≡◌, true, false, List, [], ◌∷◌, ◌⊎◌, ◌↔◌, ℕ, ◌+◌, ◌*◌, ◌≤◌, ◌<◌, eqb, length, get_or, Err}
use Rattle.lists.specs.Logic.{on}
use Rattle.lists.specs.Part.{part}
use Rattle.clock.specs.Moment.{day_count}
use Rattle.texts.specs.Texts.{padded}
use Rattle.passage.specs.Layout.{key_of, owner_of, date_of, fortify_of, stop_of, status_of, departure_of, stop_type_of, show_cancelled_of, flexible_of, monitored_of, heard_of, row_wide}
use Rattle.std.specs.declared.cmp.Ordering.TheVariants.{Less}
use Rattle.keys.specs.Keys.{cmp}
use Rattle.table.specs.Rules.{table_sound}
use Rattle.board.specs.declared.Refusal.TheVariants.{Unsound, OutOfRange}
use Rattle.board_show.specs.Ask.{Question, asks_in_range}
use Rattle.board_show.specs.Show.{shows}
use Rattle.board.specs.Rules.{board_of, listing, board_with, board_leaves, board_numbers, board_gives}

-- ---- which rows

-- the moment of a second of a date's operating day, in seconds since 2000-01-01 00:00:00
abbrev pub moment_at : ℕ → ℕ → ℕ
moment_at date second = day_count date * 86400 + second

-- the moment at which a row departs: its departure on its own date
abbrev pub departs_at : List ℕ → ℕ
departs_at r = moment_at (date_of r) (departure_of r)

-- the show rule's conditions, each by name
pub record ShowFacts (q : Question) (r : List ℕ) : Type 0 where
  pub owner-equal : owner_of r ≡ padded q.owner
  pub stop-equal : stop_of r ≡ padded q.stop
  pub not_last : stop_type_of r ≡ 2 → ⊥
  pub not-passed : status_of r ≡ 5 → ⊥
  pub from-now : moment_at q.date q.second ≤ departs_at r
  pub to-horizon : departs_at r ≤ moment_at q.date q.second + q.horizon
  pub cancel-shown : status_of r ≡ 1 → show_cancelled_of r ≡ 1
  pub flexible-shown : (flexible_of r ≤ 1) ⊎ ((flexible_of r ≡ 3) × (monitored_of r ≡ 1))
  pub relief-heard : (fortify_of r ≡ 0) ⊎ (heard_of r ≡ 1)

-- a row is shown exactly where they all hold
abbrev pub ShowsExactly : Type 0
ShowsExactly = (q : Question) (r : List ℕ) → (shows q r ≡ true) ↔ ShowFacts q r

-- how often place i stands in a list
unfoldable pub times : ℕ → List ℕ → ℕ
times i [] = 0
times i (j ∷ l) = on (eqb i j) 1 0 + times i l

-- row i of a table
abbrev pub row_at : List ℕ → ℕ → List ℕ
row_at table i = part (i * row_wide) row_wide table

-- the place of each row that is shown stands in the list once, and no other
abbrev pub ListsExactly : Type 0
ListsExactly =
    (q : Question) (table : List ℕ) (n i : ℕ)
    → let shown = shows q (row_at table i) in
    let found = times i (board_of q table n) in
    (i < n → shown ≡ true → found ≡ 1) × (i < n → shown ≡ false → found ≡ 0) × (n ≤ i → found ≡ 0)

-- ---- their order

-- of two neighbours the first departs earlier, or at the same moment with the lower place
abbrev pub InOrder : Type 0
InOrder =
    (q : Question) (table : List ℕ) (n k : ℕ)
    → let l = board_of q table n in
    let i = get_or l k 0 in
    let j = get_or l (k + 1) 0 in
    let a = departs_at (row_at table i) in
    let b = departs_at (row_at table j) in
    k + 1 < length l → (a < b) ⊎ ((a ≡ b) × (i < j))

-- the lower place has the lower key
abbrev pub PlacesRiseAsKeys : Type 0
PlacesRiseAsKeys =
    (table : List ℕ) (n i j : ℕ) → table_sound n table ≡ true → i < j → j < n
    → cmp (key_of (row_at table i)) (key_of (row_at table j)) ≡ Less

-- ---- what is answered and written

-- as many places as fit, from the list's first; the others keep their contents; and the number shown in all is the list's
abbrev pub CutOnlyWhereFull : Type 0
CutOnlyWhereFull =
    (q : Question) (table : List ℕ) (n : ℕ) (places : List ℕ)
    → let l = board_of q table n in
    let after = (board_leaves q table n places).places in
    table_sound n table ≡ true
    → asks_in_range q ≡ true
    → (w : ℕ)
    × ((board_leaves q table n places).answer ≡ listing w (length l))
    × (length l ≤ length places → w ≡ length l)
    × (length places ≤ length l → w ≡ length places)
    × ((k : ℕ) → k < w → get_or after k 0 ≡ get_or l k 0)
    × ((k : ℕ) → w ≤ k → get_or after k 0 ≡ get_or places k 0)

-- 1 exactly where the table is not sound, then 13 exactly where the question is out of its range; both leave the places
abbrev pub RefusesExactly : Type 0
RefusesExactly =
    (q : Question) (table : List ℕ) (n : ℕ) (places : List ℕ)
    → (table_sound n table ≡ false → board_leaves q table n places ≡ board_with (Err Unsound) places)
    × (table_sound n table ≡ true → asks_in_range q ≡ false → board_leaves q table n places ≡ board_with (Err OutOfRange) places)

-- the numbers of what is answered are those due by document 01's order
abbrev pub NumbersDue : Type 0
NumbersDue =
    (q : Question) (table : List ℕ) (n : ℕ) (places : List ℕ)
    → board_numbers (board_leaves q table n places).answer ≡ board_gives q table n (length places)

-- all of these
abbrev pub All : Type 0
All = ShowsExactly × ListsExactly × InOrder × PlacesRiseAsKeys × CutOnlyWhereFull × RefusesExactly × NumbersDue
