-- What is certain of a plan. `proofs/Claims.antt` proves `All`. Assumes nothing.
use Rattle.std.specs.Prelude.{ℕ, ◌+◌, ◌≤◌, ◌<◌, ◌≡◌, Bool, true, ◌&&◌, List, [], ◌∷◌, ◌⊎◌, ◌↔◌, length}
use Prim.Native.String.{String}
use Rattle.lists.specs.Logic.{on}
use Rattle.lists.specs.Text.{bytes}
use Rattle.lists.specs.Part.{part}
use Rattle.lists.specs.Each.{Each}
use Rattle.lists.specs.BigEndian.{number}
use Rattle.clock.specs.Date.{is_date}
use Rattle.turbo_labels.specs.Columns.{column_of}
use Rattle.columns.specs.declared.Table.{Table}
use Rattle.columns.specs.declared.Form.{Form}
use Rattle.columns.specs.declared.Table.TheVariants.{Message, Planning, Calendar}
use Rattle.columns.specs.Cell.{width}
use Rattle.columns.specs.Tables.{cancelled_name, names, row_width}
use Rattle.columns.specs.Layout.{kind_at, offset}
use Rattle.passage.specs.Layout.{body_wide, key_of, owner_of, date_of, line_of, journey_of, fortify_of, stop_of, order_of, destination_of, stamp_of, status_of, arrival_of, departure_of, stop_type_of, show_cancelled_of, flexible_of, monitored_of}
use Rattle.passage.specs.Ranges.{padded_text, plan_in_range}
use Rattle.passage.specs.Facts.{TimeFacts}
use Rattle.reader.specs.Rules.{items_of}
use Rattle.reader.specs.Staging.{rows_up_to}
use Rattle.reader.specs.Staged.{PassFacts, ValidityFacts}
use Rattle.plan.specs.Passes.{plan_key, plan_body}
use Rattle.plan.specs.Rules.{matches, joined}

-- ---- the columns of a row by their names

-- the place of a wanted column among its table's
abbrev pub place_in : Table → String → ℕ
place_in t name = column_of (bytes name) (names t)

-- its cell in a row, and the number that the cell spells
abbrev pub held : Table → String → List ℕ → List ℕ
held t name row = part (offset t (place_in t name)) (width (kind_at t (place_in t name))) row

abbrev pub number_held : Table → String → List ℕ → ℕ
number_held t name row = number (held t name row)

-- an update is a message's row as it stands, in either form: each field is the cell of the column of its name, and there is nothing behind the last
abbrev pub UpdateIsRow : Type 0
UpdateIsRow =
    (f : Form)
    → (row_width (Message f) ≡ body_wide)
    × ((b : List ℕ) →
    (owner_of b ≡ held (Message f) "DataOwnerCode" b)
    × (date_of b ≡ number_held (Message f) "OperationDate" b)
    × (line_of b ≡ held (Message f) "LinePlanningNumber" b)
    × (journey_of b ≡ number_held (Message f) "VehicleJourneyNumber" b)
    × (fortify_of b ≡ number_held (Message f) "FortifyOrderNumber" b)
    × (stop_of b ≡ held (Message f) "UserStopCode" b)
    × (order_of b ≡ number_held (Message f) "UserStopOrderNumber" b)
    × (destination_of b ≡ held (Message f) "DestinationCode" b)
    × (stamp_of b ≡ number_held (Message f) "LastUpdateTimeStamp" b)
    × (status_of b ≡ number_held (Message f) "TripStopStatus" b)
    × (arrival_of b ≡ number_held (Message f) "ExpectedArrivalTime" b)
    × (departure_of b ≡ number_held (Message f) "ExpectedDepartureTime" b)
    × (stop_type_of b ≡ number_held (Message f) "JourneyStopType" b)
    × (show_cancelled_of b ≡ number_held (Message f) (cancelled_name f) b)
    × (flexible_of b ≡ number_held (Message f) "ShowFlexibleTrip" b)
    × (monitored_of b ≡ number_held (Message f) "Monitored" b))

-- the facts of a staged pass time and of a staged validity are those of the columns of their names
abbrev pub PassByName : Type 0
PassByName =
    (p : List ℕ) → PassFacts p →
    (padded_text (held Planning "DataOwnerCode" p) ≡ true)
    × (padded_text (held Planning "LinePlanningNumber" p) ≡ true)
    × (number_held Planning "VehicleJourneyNumber" p < 1000000)
    × (number_held Planning "FortifyOrderNumber" p < 100)
    × (padded_text (held Planning "UserStopCode" p) ≡ true)
    × (number_held Planning "UserStopOrderNumber" p < 1000)
    × (padded_text (held Planning "LocalServiceLevelCode" p) ≡ true)
    × (padded_text (held Planning "DestinationCode" p) ≡ true)
    × TimeFacts 0 (number_held Planning "JourneyStopType" p) (number_held Planning "TargetArrivalTime" p)
    × TimeFacts 2 (number_held Planning "JourneyStopType" p) (number_held Planning "TargetDepartureTime" p)
    × (number_held Planning "JourneyStopType" p ≤ 2)
    × (number_held Planning "ShowFlexibleTrip" p ≤ 3)

abbrev pub ValidityByName : Type 0
ValidityByName =
    (v : List ℕ) → ValidityFacts v →
    (padded_text (held Calendar "DataOwnerCode" v) ≡ true)
    × (padded_text (held Calendar "LocalServiceLevelCode" v) ≡ true)
    × (is_date (number_held Calendar "OperationDate" v) ≡ true)

-- a pass time and a validity match exactly where owner and service level are the same
abbrev pub MatchExactly : Type 0
MatchExactly =
    (p v : List ℕ) → (matches p v ≡ true)
    ↔ ((held Planning "DataOwnerCode" p ≡ held Calendar "DataOwnerCode" v) × (held Planning "LocalServiceLevelCode" p ≡ held Calendar "LocalServiceLevelCode" v))

-- a plan passage has the date of the validity and all else of the pass time; it is unheard and PLANNED, shown when cancelled, and not monitored
abbrev pub PlanFields : Type 0
PlanFields =
    (p v : List ℕ) → length p ≡ row_width Planning → length v ≡ row_width Calendar →
    (owner_of (plan_body p v) ≡ held Planning "DataOwnerCode" p)
    × (date_of (plan_body p v) ≡ number_held Calendar "OperationDate" v)
    × (line_of (plan_body p v) ≡ held Planning "LinePlanningNumber" p)
    × (journey_of (plan_body p v) ≡ number_held Planning "VehicleJourneyNumber" p)
    × (fortify_of (plan_body p v) ≡ number_held Planning "FortifyOrderNumber" p)
    × (stop_of (plan_body p v) ≡ held Planning "UserStopCode" p)
    × (order_of (plan_body p v) ≡ number_held Planning "UserStopOrderNumber" p)
    × (destination_of (plan_body p v) ≡ held Planning "DestinationCode" p)
    × (stamp_of (plan_body p v) ≡ 0)
    × (status_of (plan_body p v) ≡ 0)
    × (arrival_of (plan_body p v) ≡ number_held Planning "TargetArrivalTime" p)
    × (departure_of (plan_body p v) ≡ number_held Planning "TargetDepartureTime" p)
    × (stop_type_of (plan_body p v) ≡ number_held Planning "JourneyStopType" p)
    × (show_cancelled_of (plan_body p v) ≡ 1)
    × (flexible_of (plan_body p v) ≡ number_held Planning "ShowFlexibleTrip" p)
    × (monitored_of (plan_body p v) ≡ 0)

-- ---- what joins

-- P holds of one element at least
abbrev pub Some : {A : Type 0} → (A → Type 0) → List A → Type 0
Some P [] = ⊥
Some P (x ∷ l) = P x ⊎ Some P l

-- a plan passage that may stand in a book
abbrev pub Passage : List ℕ → Type 0
Passage b = (plan_in_range b ≡ true) × (length b ≡ body_wide)

-- a pass time and a validity in range give a plan passage in range, and its key is that of the pass time on the validity's date
abbrev pub PlanInRange : Type 0
PlanInRange = (p v : List ℕ) → PassFacts p → ValidityFacts v → Passage (plan_body p v) × (key_of (plan_body p v) ≡ plan_key p v)

-- a plan passage joins exactly where it is that of a pass time and of a validity that match
abbrev pub JoinedExactly : Type 0
JoinedExactly =
    (ps vs : List (List ℕ)) (b : List ℕ)
    → Some (λ (x : List ℕ). x ≡ b) (joined ps vs) ↔ Some (λ (p : List ℕ). Some (λ (v : List ℕ). (matches p v ≡ true) × (plan_body p v ≡ b)) vs) ps

-- how many elements pass the test
abbrev pub tally : {A : Type 0} → (A → Bool) → List A → ℕ
tally f [] = 0
tally f (x ∷ l) = on (f x) 1 0 + tally f l

-- how many pairs pass it, each element of one list with each of the other
abbrev pub tally_pairs : {A : Type 0} → (A → A → Bool) → List A → List A → ℕ
tally_pairs f [] m = 0
tally_pairs f (x ∷ l) m = tally (f x) m + tally_pairs f l m

-- of every kind of plan passage as many join as there are pairs that match and give one: a pair that stands twice counts twice
abbrev pub JoinedCounted : Type 0
JoinedCounted = (kind : List ℕ → Bool) (ps vs : List (List ℕ)) → tally kind (joined ps vs) ≡ tally_pairs (λ (p v : List ℕ). matches p v && kind (plan_body p v)) ps vs

-- what joins of any two dossiers' rows is in range
abbrev pub JoinedInRange : Type 0
JoinedInRange =
    (planning calendar : List ℕ) → Each Passage (joined (rows_up_to Planning [] 0 (items_of Planning planning)) (rows_up_to Calendar [] 0 (items_of Calendar calendar)))

abbrev pub All : Type 0
All = UpdateIsRow × PassByName × ValidityByName × MatchExactly × PlanFields × PlanInRange × JoinedExactly × JoinedCounted × JoinedInRange
