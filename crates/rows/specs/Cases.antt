-- Small label lines, and data lines under them, by computation. Assumes nothing.
use Rattle.std.specs.Prelude.{ℕ, ◌≡◌, refl, true, false, List, [], ◌∷◌, ◌++◌, take, drop, replicate}
use Rattle.lists.specs.Text.{bytes, same}
use Rattle.lists.specs.Part.{part, onto, over}
use Rattle.lists.specs.Rows.{flat}
use Rattle.lists.specs.BigEndian.{spelled}
use Rattle.clock.specs.Date.{days_in, is_date}
use Rattle.clock.specs.Moment.{month_start, day_count}
use Rattle.turbo.specs.Escape.{escaped, decode}
use Rattle.turbo.specs.Split.{fields, field_at}
use Rattle.turbo_labels.specs.Columns.{count, column_of, field_under, any_twice, places_from}
use Rattle.field_types.specs.Digits.{numeral, triple}
use Rattle.field_types.specs.Times.{clock, time}
use Rattle.field_types.specs.Dates.{date}
use Rattle.field_types.specs.Stamps.{utc_offset, stamp_seconds, stamp}
use Rattle.field_types.specs.Names.{bit, status, stop_type, flexible, truth, shown}
use Rattle.texts.specs.Texts.{text}
use Rattle.columns.specs.declared.Form.{Form}
use Rattle.columns.specs.declared.Form.TheVariants.{Old, New}
use Rattle.columns.specs.declared.Table.TheVariants.{Message, Calendar}
use Rattle.columns.specs.Cell.{cell}
use Rattle.columns.specs.Tables.{message_columns, calendar_columns, columns_in, names, misses, row_of, wrong_column, label_fault}
use Rattle.rows.specs.Shape.{next_from, visits, lacking, shape_of, is_one_of, meeting, shape_at}

-- a calendar's columns out of order, among others: the level is first, the date third, the owner fifth
unfoldable pub labels : List (List ℕ)
labels = bytes "LocalServiceLevelCode" ∷ bytes "X" ∷ bytes "OperationDate" ∷ bytes "Y" ∷ bytes "DataOwnerCode" ∷ []

pub calendar_shape :
    ((shape_of Calendar labels).fault ≡ false)
    × ((shape_of Calendar labels).count ≡ 5)
    × (take 3 (shape_of Calendar labels).places ≡ 4 ∷ 0 ∷ 2 ∷ [])
    × (take 3 (shape_of Calendar labels).order ≡ 1 ∷ 2 ∷ 0 ∷ [])
unfolding labels shape_of label_fault any_twice count places_from column_of names columns_in calendar_columns misses same visits next_from over onto
calendar_shape = (refl, refl, refl, refl)

-- the same shape by its numbers; with two columns at one place, and with one past the last, no line can be read by it
pub calendar_restored :
    ((shape_at Calendar 5 5 (4 ∷ 0 ∷ 2 ∷ replicate 17 0)).fault ≡ false)
    × (take 3 (shape_at Calendar 5 5 (4 ∷ 0 ∷ 2 ∷ replicate 17 0)).order ≡ 1 ∷ 2 ∷ 0 ∷ [])
    × ((shape_at Calendar 5 5 (4 ∷ 2 ∷ 2 ∷ replicate 17 0)).fault ≡ true)
    × ((shape_at Calendar 4 5 (4 ∷ 0 ∷ 2 ∷ replicate 17 0)).fault ≡ true)
unfolding shape_at columns_in calendar_columns lacking meeting is_one_of visits next_from over onto
calendar_restored = (refl, refl, refl, refl)

-- a missing column, and a wanted name that stands twice; an unwanted one may
pub label_faults :
    (label_fault Calendar (drop 1 labels) ≡ true)
    × (label_fault Calendar (bytes "OperationDate" ∷ labels) ≡ true)
    × (label_fault Calendar (bytes "X" ∷ labels) ≡ false)
unfolding labels label_fault any_twice count column_of names columns_in calendar_columns misses same
label_faults = (refl, refl, refl)

-- a message's stop type in front, an unwanted column, and two optional columns missing
unfoldable pub message_labels : List (List ℕ)
message_labels =
    bytes "JourneyStopType" ∷ bytes "X" ∷ bytes "DataOwnerCode" ∷ bytes "OperationDate" ∷ bytes "LinePlanningNumber" ∷ bytes "VehicleJourneyNumber"
    ∷ bytes "FortifyOrderNumber" ∷ bytes "UserStopCode" ∷ bytes "UserStopOrderNumber" ∷ bytes "DestinationCode" ∷ bytes "LastUpdateTimeStamp"
    ∷ bytes "TripStopStatus" ∷ bytes "ExpectedArrivalTime" ∷ bytes "ExpectedDepartureTime" ∷ bytes "Monitored" ∷ []

-- its arrival is missing, as it may be at FIRST, and Monitored has no content
unfoldable pub message : List ℕ
message = bytes "FIRST|?|GVB|2017-01-01|M5|7|0|057|3|D1|2016-03-01T15:15:30+01:00|DRIVING|\\0|25:20:00|\\0"

unfoldable pub message_row : List ℕ
message_row =
    bytes "GVB" ++ replicate 7 0
    ++ spelled 4 20170101
    ++ bytes "M5" ++ replicate 8 0
    ++ 0 ∷ 0 ∷ 0 ∷ 7 ∷ 0
    ∷ bytes "057" ++ replicate 7 0
    ++ 0 ∷ 3
    ∷ bytes "D1" ++ replicate 8 0
    ++ spelled 4 1456841730
    ++ 3 ∷ 255 ∷ 255 ∷ 255
    ∷ spelled 3 91200
    ++ 0 ∷ 255 ∷ 255 ∷ 255 ∷ []

pub message-row : (f : Form) → (wrong_column (Message f) message_labels message ≡ 0) × (row_of (Message f) message_labels message ≡ message_row)
unfolding message_labels message message_row wrong_column row_of flat columns_in message_columns column_of field_under same field_at fields cell spelled text decode escaped date is_date days_in triple numeral stamp stamp_seconds month_start day_count utc_offset clock time status stop_type bit flexible
message-row Old = (refl, refl)
message-row New = (refl, refl)

-- the same with a cancelled journey's showing by either name: each form has its own words for its own
unfoldable pub form_labels : List (List ℕ)
form_labels = bytes "ShowCancelledTrip" ∷ bytes "ShowCancelledJourney" ∷ message_labels

abbrev shown_as : List ℕ → List ℕ → List ℕ
shown_as trip journey = trip ++ bytes "|" ++ journey ++ bytes "|" ++ message

pub forms_row :
    (wrong_column (Message New) form_labels (shown_as (bytes "?") (bytes "message")) ≡ 0)
    × (part 63 3 (row_of (Message New) form_labels (shown_as (bytes "?") (bytes "message"))) ≡ 2 ∷ 255 ∷ 255 ∷ [])
    × (wrong_column (Message New) form_labels (shown_as (bytes "1") (bytes "1")) ≡ 2)
    × (wrong_column (Message Old) form_labels (shown_as (bytes "1") (bytes "?")) ≡ 0)
    × (part 63 3 (row_of (Message Old) form_labels (shown_as (bytes "1") (bytes "?"))) ≡ 1 ∷ 255 ∷ 255 ∷ [])
    × (wrong_column (Message Old) form_labels (shown_as (bytes "true") (bytes "true")) ≡ 1)
unfolding form_labels message_labels message part wrong_column row_of flat columns_in message_columns column_of field_under same field_at fields cell spelled text decode escaped date is_date days_in triple numeral stamp stamp_seconds month_start day_count utc_offset clock time status stop_type bit flexible truth shown
forms_row = (refl, refl, refl, refl, refl, refl)

-- the date in column 3 and the owner in column 5 are both outside their types: the first in the line's order is told, though the owner is the table's first column
pub calendar_wrong :
    (wrong_column Calendar labels (bytes "L|?|2017-13-01|?|") ≡ 3)
    × (wrong_column Calendar labels (bytes "L|?|2017-12-01|?|") ≡ 5)
    × (wrong_column Calendar labels (bytes "L|?|2017-12-01|?|O") ≡ 0)
unfolding labels wrong_column column_of columns_in calendar_columns field_under same field_at fields cell spelled text decode escaped date is_date days_in triple numeral
calendar_wrong = (refl, refl, refl)
