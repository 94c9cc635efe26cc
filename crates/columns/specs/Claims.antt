-- What is claimed of cells and of rows: what is kept is what the field says, and in range, field by field. Assumes nothing.
use Rattle.std.specs.Prelude.{◌≡◌, true, List, [], ◌∷◌, ◌⊎◌, ◌↔◌, ℕ, ◌+◌, ◌<◌, ◌≤◌, length, take, get_or, Option, Some, None}
use Prim.Native.String.{String}
use Rattle.lists.specs.Each.{Bytes}
use Rattle.lists.specs.Text.{bytes}
use Rattle.lists.specs.Part.{part, some}
use Rattle.lists.specs.Rows.{flat}
use Rattle.lists.specs.BigEndian.{number, spelled}
use Rattle.clock.specs.declared.OperatingSeconds.{OperatingSeconds}
use Rattle.clock.specs.Date.{is_date}
use Rattle.turbo.specs.Escape.{decode}
use Rattle.turbo_labels.specs.Columns.{count}
use Rattle.field_types.specs.Digits.{numeral}
use Rattle.field_types.specs.Dates.{date}
use Rattle.field_types.specs.Times.{time}
use Rattle.field_types.specs.Stamps.{stamp, in_stamp_range}
use Rattle.field_types.specs.Names.{bit, status, stop_type, flexible, truth, shown}
use Rattle.texts.specs.Texts.{padded, is_text}
use Rattle.columns.specs.declared.Form.{Form}
use Rattle.columns.specs.declared.Form.TheVariants.{Old}
use Rattle.columns.specs.declared.Table.{Table}
use Rattle.columns.specs.declared.Table.TheVariants.{Message}
use Rattle.columns.specs.declared.Kind.{Kind}
use Rattle.columns.specs.declared.Kind.TheVariants.{Text, Date, Journey, Fortify, Order, Stamp, Status, Arrival, Departure, StopType, Bit, Flexible, Truth, Shown}
use Rattle.columns.specs.Cell.{width, null, cell}
use Rattle.columns.specs.Tables.{Column, must, may, columns_in, table_name, row_width, cell_of, row_of, wrong_column, label_fault}
use Rattle.columns.specs.Layout.{wanted, column_at, kind_at, optional_at, offset}

-- ---- cells, whatever the field and the field of the row's own stop type

-- What is kept of a field has its kind's width, and all of it are bytes.
abbrev pub CellsWide : Type 0
CellsWide = (k : Kind) (stop f : List ℕ) → (some (cell k stop f) ≡ true → length (cell k stop f) ≡ width k) × Bytes (cell k stop f)

-- What is kept of a text is what the field stands for, 1 to 10 bytes from 32 to 126, padded with zero bytes.
abbrev pub TextsInRange : Type 0
TextsInRange =
    (stop f : List ℕ) → some (cell Text stop f) ≡ true
    → (is_text (decode f) ≡ true) × (cell Text stop f ≡ padded (decode f))

-- And each such field is kept so.
abbrev pub TextsKept : Type 0
TextsKept = (stop f : List ℕ) → is_text (decode f) ≡ true → cell Text stop f ≡ padded (decode f)

-- Of a field that the rule reads as a number, that number is kept, in w bytes; of any other field nothing is.
abbrev pub KeptAs : Kind → ℕ → (List ℕ → Option ℕ) → Type 0
KeptAs k w rule = (stop f : List ℕ) → ((n : ℕ) → rule f ≡ Some n → cell k stop f ≡ spelled w n) × (rule f ≡ None → cell k stop f ≡ [])

-- A column of each kind keeps what its type reads: D, N6, N2, N3, U, a status, a stop type, B, a flexible, in the 8.5 form a yes or no and a ShowCancelledJourney.
abbrev pub NumbersKept : Type 0
NumbersKept =
    KeptAs Date 4 date
    × KeptAs Journey 4 (numeral 6)
    × KeptAs Fortify 1 (numeral 2)
    × KeptAs Order 2 (numeral 3)
    × KeptAs Stamp 4 stamp
    × KeptAs Status 1 status
    × KeptAs StopType 1 stop_type
    × KeptAs Bit 1 bit
    × KeptAs Flexible 1 flexible
    × KeptAs Truth 1 truth
    × KeptAs Shown 1 shown

-- An arrival and a departure keep the seconds of a T, and nothing of what is neither a T nor `\0`.
abbrev pub TimesKept : Type 0
TimesKept =
    (stop f : List ℕ)
    → ((s : OperatingSeconds) → time f ≡ Some s → (cell Arrival stop f ≡ spelled 3 s.0) × (cell Departure stop f ≡ spelled 3 s.0))
    × (time f ≡ None → (f ≡ null → ⊥) → (cell Arrival stop f ≡ []) × (cell Departure stop f ≡ []))

-- `\0` in a column that may be absent is kept as an absent one is; every other field, and every field of a column that must be there, by its kind.
abbrev pub LeftOutAsAbsent : Type 0
LeftOutAsAbsent =
    (c : Column) (stop f : List ℕ)
    → ((c.absent ≡ [] → ⊥) → cell_of c stop null ≡ c.absent)
    × ((f ≡ null → ⊥) → cell_of c stop f ≡ cell c.kind stop f)
    × (c.absent ≡ [] → cell_of c stop f ≡ cell c.kind stop f)

-- Of what is kept in a column of kind k, the number that its bytes spell is one of P.
abbrev pub Spells : Kind → (ℕ → Type 0) → Type 0
Spells k P = (stop f : List ℕ) → some (cell k stop f) ≡ true → P (number (cell k stop f))

-- What is kept of a date is a date.
abbrev pub DatesInRange : Type 0
DatesInRange = Spells Date (λ (n : ℕ). is_date n ≡ true)

-- A journey number that is kept is below 1,000,000, a fortify number below 100, an order number below 1,000.
abbrev pub NumbersInRange : Type 0
NumbersInRange = Spells Journey (λ (n : ℕ). n < 1000000) × Spells Fortify (λ (n : ℕ). n < 100) × Spells Order (λ (n : ℕ). n < 1000)

-- A timestamp that is kept is one that a U field can give.
abbrev pub StampsInRange : Type 0
StampsInRange = Spells Stamp (λ (n : ℕ). in_stamp_range n ≡ true)

-- A status that is kept is 0 to 5, a stop type 0 to 2, a bit 0 or 1, a flexible 1 to 3, a yes or no of the 8.5 form 0 or 1, a ShowCancelledJourney 0 to 2.
abbrev pub WordsInRange : Type 0
WordsInRange =
    Spells Status (λ (n : ℕ). n ≤ 5)
    × Spells StopType (λ (n : ℕ). n ≤ 2)
    × Spells Bit (λ (n : ℕ). n ≤ 1)
    × Spells Flexible (λ (n : ℕ). (1 ≤ n) × (n ≤ 3))
    × Spells Truth (λ (n : ℕ). n ≤ 1)
    × Spells Shown (λ (n : ℕ). n ≤ 2)

-- The time that l spells is below 115,200; or it is missing, the field has no content, and the row's own stop type is the word.
abbrev pub TimeOrMissing : List ℕ → List ℕ → List ℕ → List ℕ → Type 0
TimeOrMissing word stop f l = (number l < 115200) ⊎ ((number l ≡ 16777215) × (f ≡ null) × (stop ≡ word))

-- An arrival that is kept is a time, or missing at FIRST only; a departure is a time, or missing at LAST only.
abbrev pub TimesInRange : Type 0
TimesInRange =
    (stop f : List ℕ)
    → (some (cell Arrival stop f) ≡ true → TimeOrMissing (bytes "FIRST") stop f (cell Arrival stop f))
    × (some (cell Departure stop f) ≡ true → TimeOrMissing (bytes "LAST") stop f (cell Departure stop f))

-- Where a time has no content something is kept exactly at the stop type that may miss it: an arrival at FIRST, a departure at LAST.
abbrev pub MissingExactly : Type 0
MissingExactly =
    (stop : List ℕ)
    → ((some (cell Arrival stop null) ≡ true) ↔ (stop ≡ bytes "FIRST"))
    × ((some (cell Departure stop null) ≡ true) ↔ (stop ≡ bytes "LAST"))

-- Of a field without content nothing is kept in any other column.
abbrev pub NullKeepsNothing : Type 0
NullKeepsNothing = (k : Kind) (stop : List ℕ) → (k ≡ Arrival → ⊥) → (k ≡ Departure → ⊥) → cell k stop null ≡ []

-- An empty field is outside every type.
abbrev pub EmptyKeepsNothing : Type 0
EmptyKeepsNothing = (k : Kind) (stop : List ℕ) → cell k stop [] ≡ []

-- The words of a stop type are kept as 0, 1 and 2.
abbrev pub StopTypesCoded : Type 0
StopTypesCoded =
    (stop : List ℕ)
    → (cell StopType stop (bytes "FIRST") ≡ 0 ∷ [])
    × (cell StopType stop (bytes "INTERMEDIATE") ≡ 1 ∷ [])
    × (cell StopType stop (bytes "LAST") ≡ 2 ∷ [])

-- ---- rows

-- A reader wants at most 20 columns, and a row has at most 80 bytes.
abbrev pub TablesSmall : Type 0
TablesSmall = (t : Table) → (wanted t ≤ 20) × (row_width t ≤ 80)

-- The first cell begins where the row does, each other where the one before it ends, and all end within the row.
abbrev pub CellsLaid : Type 0
CellsLaid =
    (t : Table)
    → (offset t 0 ≡ 0)
    × ((j : ℕ) → j < wanted t → offset t (j + 1) ≡ offset t j + width (kind_at t j))
    × ((j : ℕ) → j < wanted t → offset t j + width (kind_at t j) ≤ row_width t)

-- No two cells share a byte.
abbrev pub CellsApart : Type 0
CellsApart = (t : Table) (j k : ℕ) → j < k → k < wanted t → offset t j + width (kind_at t j) ≤ offset t k

-- A row that has, at each column's place, that column's cell, is the cells one behind the other.
abbrev pub RowIsCells : Type 0
RowIsCells =
    (t : Table) (cells : List (List ℕ)) (row : List ℕ) → length cells ≡ wanted t
    → ((j : ℕ) → j < wanted t → part (offset t j) (width (kind_at t j)) row ≡ get_or cells j [])
    → take (row_width t) row ≡ flat cells

-- What is kept of an absent column has the width of its cells.
abbrev pub AbsentKept : Type 0
AbsentKept = (t : Table) (j : ℕ) → j < wanted t → optional_at t j ≡ true → length (column_at t j).absent ≡ width (kind_at t j)

-- ---- the forms of a message

-- The columns of the old form are those that were wanted before there was another.
abbrev pub OldFormStays : Type 0
OldFormStays =
    columns_in (Message Old)
    ≡ must "DataOwnerCode" Text
    ∷ must "OperationDate" Date
    ∷ must "LinePlanningNumber" Text
    ∷ must "VehicleJourneyNumber" Journey
    ∷ must "FortifyOrderNumber" Fortify
    ∷ must "UserStopCode" Text
    ∷ must "UserStopOrderNumber" Order
    ∷ must "DestinationCode" Text
    ∷ must "LastUpdateTimeStamp" Stamp
    ∷ must "TripStopStatus" Status
    ∷ must "ExpectedArrivalTime" Arrival
    ∷ must "ExpectedDepartureTime" Departure
    ∷ must "JourneyStopType" StopType
    ∷ may "ShowCancelledTrip" Bit (255 ∷ [])
    ∷ may "ShowFlexibleTrip" Flexible (255 ∷ [])
    ∷ may "Monitored" Bit (255 ∷ [])
    ∷ []

-- The forms share the layout of a row: as many columns, each as wide, at its place, and as free to be absent, with the same kept of it then.
abbrev pub FormsShareLayout : Type 0
FormsShareLayout =
    (f g : Form)
    → (table_name (Message f) ≡ table_name (Message g))
    × (wanted (Message f) ≡ wanted (Message g))
    × (row_width (Message f) ≡ row_width (Message g))
    × ((j : ℕ) → (offset (Message f) j ≡ offset (Message g) j) × (width (kind_at (Message f) j) ≡ width (kind_at (Message g) j))
    × ((column_at (Message f) j).absent ≡ (column_at (Message g) j).absent))

-- They differ in two columns alone, the fourteenth and the last.
abbrev pub FormsDifferInTwo : Type 0
FormsDifferInTwo = (f g : Form) (j : ℕ) → (j ≡ 13 → ⊥) → (j ≡ 15 → ⊥) → column_at (Message f) j ≡ column_at (Message g) j

-- The name stands nowhere among the labels.
abbrev pub Unlabelled : String → List (List ℕ) → Type 0
Unlabelled name labels = count (bytes name) labels ≡ 0

-- A message without the columns that differ reads the same in both forms: under labels that have none of the three names, the labels' fault, each line's row and its first wrong column are one.
abbrev pub FormsAgree : Type 0
FormsAgree =
    (labels : List (List ℕ)) → Unlabelled "ShowCancelledTrip" labels → Unlabelled "ShowCancelledJourney" labels → Unlabelled "Monitored" labels
    → (f g : Form)
    → (label_fault (Message f) labels ≡ label_fault (Message g) labels)
    × ((line : List ℕ) → (row_of (Message f) labels line ≡ row_of (Message g) labels line) × (wrong_column (Message f) labels line ≡ wrong_column (Message g) labels line))

-- All of them.
abbrev pub All : Type 0
All =
    CellsWide
    × TextsInRange
    × TextsKept
    × NumbersKept
    × TimesKept
    × LeftOutAsAbsent
    × DatesInRange
    × NumbersInRange
    × StampsInRange
    × WordsInRange
    × TimesInRange
    × MissingExactly
    × NullKeepsNothing
    × EmptyKeepsNothing
    × StopTypesCoded
    × TablesSmall
    × CellsLaid
    × CellsApart
    × RowIsCells
    × AbsentKept
    × OldFormStays
    × FormsShareLayout
    × FormsDifferInTwo
    × FormsAgree
