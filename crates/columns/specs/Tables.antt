-- The wanted tables, each with its columns in document order. Assumes nothing.
use Rattle.std.specs.Prelude.{ℕ, ◌+◌, Bool, true, false, ◌&&◌, ◌||◌, List, [], ◌∷◌, map, eqb, ltb, leb, length}
use Prim.Native.String.{String}
use Rattle.lists.specs.Part.{some}
use Rattle.lists.specs.Logic.{on}
use Rattle.lists.specs.Text.{bytes, same}
use Rattle.lists.specs.Rows.{flat}
use Rattle.turbo.specs.Split.{field_at}
use Rattle.turbo_labels.specs.Columns.{column_of, field_under, any_twice}
use Rattle.columns.specs.declared.Form.{Form}
use Rattle.columns.specs.declared.Form.TheVariants.{Old, New}
use Rattle.columns.specs.declared.Table.{Table}
use Rattle.columns.specs.declared.Table.TheVariants.{Message, Planning, Calendar}
use Rattle.columns.specs.declared.Kind.{Kind}
use Rattle.columns.specs.declared.Kind.TheVariants.{Text, Date, Journey, Fortify, Order, Stamp, Status, Arrival, Departure, StopType, Bit, Flexible, Truth, Shown}
use Rattle.columns.specs.Cell.{width, null, cell}

-- a wanted column: its name, the kind of its fields, and what is kept where it is absent or holds `\0`; nothing for one that must be there
pub record Column : Type 0 where
  pub name : String
  pub kind : Kind
  pub absent : List ℕ

abbrev pub must : String → Kind → Column
must n k = record { name = n; kind = k; absent = [] }

abbrev pub may : String → Kind → List ℕ → Column
may n k a = record { name = n; kind = k; absent = a }

-- 255: the held content stays
abbrev pub stays : List ℕ
stays = 255 ∷ []

-- ---- forms

-- a form that is known: 0 the old one, 1 that of 8.5
abbrev pub is_form : ℕ → Bool
is_form n = leb n 1

-- the form that a number states; an unknown one is read as the old
abbrev pub form_of : ℕ → Form
form_of n = on (eqb n 1) New Old

-- ---- columns

-- what differs between the forms: how a cancelled journey is shown, and yes or no
abbrev pub cancelled_name : Form → String
cancelled_name Old = "ShowCancelledTrip"
cancelled_name New = "ShowCancelledJourney"

abbrev pub cancelled_kind : Form → Kind
cancelled_kind Old = Bit
cancelled_kind New = Shown

abbrev pub yes_no_kind : Form → Kind
yes_no_kind Old = Bit
yes_no_kind New = Truth

unfoldable pub message_columns : Form → List Column
message_columns f =
    must "DataOwnerCode" Text
    ∷ must "OperationDate" Date
    ∷ must "LinePlanningNumber" Text
    ∷ must "VehicleJourneyNumber" Journey
    ∷ must "FortifyOrderNumber" Fortify
    ∷ must "UserStopCode" Text
    ∷ must "UserStopOrderNumber" Order
    ∷ must "DestinationCode" Text
    ∷ must "LastUpdateTimeStamp" Stamp
    ∷ must "TripStopStatus" Status
    ∷ must "ExpectedArrivalTime" Arrival
    ∷ must "ExpectedDepartureTime" Departure
    ∷ must "JourneyStopType" StopType
    ∷ may (cancelled_name f) (cancelled_kind f) stays
    ∷ may "ShowFlexibleTrip" Flexible stays
    ∷ may "Monitored" (yes_no_kind f) stays
    ∷ []

-- a planned flexible that is absent is kept as 0
unfoldable pub planning_columns : List Column
planning_columns =
    must "DataOwnerCode" Text
    ∷ must "LinePlanningNumber" Text
    ∷ must "VehicleJourneyNumber" Journey
    ∷ must "FortifyOrderNumber" Fortify
    ∷ must "UserStopCode" Text
    ∷ must "UserStopOrderNumber" Order
    ∷ must "LocalServiceLevelCode" Text
    ∷ must "DestinationCode" Text
    ∷ must "TargetArrivalTime" Arrival
    ∷ must "TargetDepartureTime" Departure
    ∷ must "JourneyStopType" StopType
    ∷ may "ShowFlexibleTrip" Flexible (0 ∷ [])
    ∷ []

unfoldable pub calendar_columns : List Column
calendar_columns = must "DataOwnerCode" Text ∷ must "LocalServiceLevelCode" Text ∷ must "OperationDate" Date ∷ []

unfoldable pub columns_in : Table → List Column
columns_in (Message f) = message_columns f
columns_in Planning = planning_columns
columns_in Calendar = calendar_columns

-- a table's own name, and the names of its columns
unfoldable pub table_name : Table → List ℕ
table_name (Message f) = bytes "DATEDPASSTIME"
table_name Planning = bytes "LOCALSERVICEGROUPPASSTIME"
table_name Calendar = bytes "LOCALSERVICEGROUPVALIDITY"

abbrev pub name_of : Column → List ℕ
name_of c = bytes c.name

unfoldable pub names : Table → List (List ℕ)
names t = map name_of (columns_in t)

abbrev pub is_optional : Column → Bool
is_optional c = some c.absent

-- ---- a row: the cells of its columns in document order, one behind the other

-- how wide a row is
abbrev pub width_of : List Column → ℕ
width_of [] = 0
width_of (c ∷ cs) = width c.kind + width_of cs

unfoldable pub row_width : Table → ℕ
row_width t = width_of (columns_in t)

-- the field f of column c holds `\0`, and may
abbrev pub left_out : Column → List ℕ → Bool
left_out c f = is_optional c && same f null

-- the cell of the field f of column c, in a line whose stop type's field is `stop`
abbrev pub cell_of : Column → List ℕ → List ℕ → List ℕ
cell_of c stop f = on (left_out c f) c.absent (cell c.kind stop f)

-- the place of the stop type among the labels, and its field in a line; no bytes where no label has that name
abbrev pub stop_place : List (List ℕ) → ℕ
stop_place labels = column_of (bytes "JourneyStopType") labels

abbrev pub stop_field : List (List ℕ) → List ℕ → List ℕ
stop_field labels line = field_under (stop_place labels) (length labels) line

-- the cell of column c in a line under its labels: that of the field under its name, and what is kept of an absent one where no label has that name
abbrev pub cell_under : List (List ℕ) → List ℕ → Column → List ℕ
cell_under labels line c =
    on (ltb (column_of (name_of c) labels) (length labels)) (cell_of c (stop_field labels line) (field_at (column_of (name_of c) labels) line)) c.absent

-- the cells of a line under its labels
abbrev pub cells_of : List Column → List (List ℕ) → List ℕ → List (List ℕ)
cells_of [] labels line = []
cells_of (c ∷ cs) labels line = cell_under labels line c ∷ cells_of cs labels line

-- the row that a line gives
unfoldable pub row_of : Table → List (List ℕ) → List ℕ → List ℕ
row_of t labels line = flat (cells_of (columns_in t) labels line)

-- the lesser of two columns counted from 1, where 0 is none
abbrev pub lesser : ℕ → ℕ → ℕ
lesser a b = on (eqb b 0) a (on (ltb a b) a b)

-- the first column, from 1 and in the line's own order, whose field is outside its type; 0 where none is
abbrev pub wrong_in : List Column → List (List ℕ) → List ℕ → ℕ
wrong_in [] labels line = 0
wrong_in (c ∷ cs) labels line =
    on (some (cell_under labels line c)) (wrong_in cs labels line) (lesser (column_of (name_of c) labels + 1) (wrong_in cs labels line))

unfoldable pub wrong_column : Table → List (List ℕ) → List ℕ → ℕ
wrong_column t labels line = wrong_in (columns_in t) labels line

-- a column that must be there is missing
abbrev pub misses_in : List Column → List (List ℕ) → Bool
misses_in [] labels = false
misses_in (c ∷ cs) labels = on (is_optional c) (misses_in cs labels) (on (ltb (column_of (name_of c) labels) (length labels)) (misses_in cs labels) true)

unfoldable pub misses : Table → List (List ℕ) → Bool
misses t labels = misses_in (columns_in t) labels

-- a wanted name stands twice, or one that must be there is missing
unfoldable pub label_fault : Table → List (List ℕ) → Bool
label_fault t labels = any_twice (names t) labels || misses t labels
