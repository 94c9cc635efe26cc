-- Cells and rows, by computation. Assumes nothing.
use Rattle.std.specs.Prelude.{◌≡◌, refl, [], ◌∷◌}
use Rattle.lists.specs.Text.{bytes, same}
use Rattle.lists.specs.BigEndian.{spelled}
use Rattle.clock.specs.Date.{days_in, is_date}
use Rattle.turbo.specs.Escape.{escaped, decode}
use Rattle.field_types.specs.Digits.{numeral, triple}
use Rattle.field_types.specs.Times.{clock, time}
use Rattle.field_types.specs.Dates as Dates
use Rattle.field_types.specs.Names.{truth, shown}
use Rattle.texts.specs.Texts as Texts
use Rattle.columns.specs.declared.Form.{Form}
use Rattle.columns.specs.declared.Form.TheVariants.{Old, New}
use Rattle.columns.specs.declared.Table.TheVariants.{Message, Planning, Calendar}
use Rattle.columns.specs.declared.Kind.TheVariants.{Text, Date, Fortify, Arrival, Departure, Truth, Shown}
use Rattle.columns.specs.Cell.{width, null, missing_time, cell}
use Rattle.columns.specs.Tables.{message_columns, planning_columns, calendar_columns, columns_in, row_width}
use Rattle.columns.specs.Layout.{column_at, kind_at, widths, total, offset}

-- a row of a message has 66 bytes, one of the planning 65, one of the calendar 24
pub row_widths : (row_width (Message Old) ≡ 66) × (row_width (Message New) ≡ 66) × (row_width Planning ≡ 65) × (row_width Calendar ≡ 24)
unfolding row_width columns_in message_columns planning_columns calendar_columns width
row_widths = (refl, refl, refl, refl)

-- the departure of a message stands at byte 59, its column is the twelfth
pub departure_place : (f : Form) → (kind_at (Message f) 11 ≡ Departure) × (offset (Message f) 11 ≡ 59)
unfolding kind_at column_at offset total widths columns_in message_columns width
departure_place f = (refl, refl)

-- an arrival may be missing at FIRST, and neither at INTERMEDIATE nor at LAST
pub arrivals_missing :
    (cell Arrival (bytes "FIRST") null ≡ missing_time)
    × (cell Arrival (bytes "INTERMEDIATE") null ≡ [])
    × (cell Arrival (bytes "LAST") null ≡ [])
unfolding cell same
arrivals_missing = (refl, refl, refl)

-- a departure at LAST only
pub departures_missing :
    (cell Departure (bytes "LAST") null ≡ missing_time)
    × (cell Departure (bytes "INTERMEDIATE") null ≡ [])
    × (cell Departure (bytes "FIRST") null ≡ [])
unfolding cell same
departures_missing = (refl, refl, refl)

-- 31:59:59 is kept in three bytes, 32:00:00 is outside its type
pub times_kept : (cell Arrival [] (bytes "31:59:59") ≡ 1 ∷ 193 ∷ 255 ∷ []) × (cell Arrival [] (bytes "32:00:00") ≡ [])
unfolding cell same spelled time clock triple numeral
times_kept = (refl, refl)

-- two digits of a fortify number, and no three
pub fortifies_kept : (cell Fortify [] (bytes "99") ≡ 99 ∷ []) × (cell Fortify [] (bytes "100") ≡ [])
unfolding cell spelled numeral
fortifies_kept = (refl, refl)

-- a date in four bytes, and one that is none
pub dates_kept : (cell Date [] (bytes "2000-02-29") ≡ spelled 4 20000229) × (cell Date [] (bytes "2023-02-29") ≡ [])
unfolding cell spelled Dates.date triple numeral is_date days_in
dates_kept = (refl, refl)

-- an escaped bar in a text
pub texts_kept : cell Text [] (bytes "a\\pb") ≡ 97 ∷ 124 ∷ 98 ∷ 0 ∷ 0 ∷ 0 ∷ 0 ∷ 0 ∷ 0 ∷ 0 ∷ []
unfolding cell Texts.text decode escaped
texts_kept = refl

-- `message` is kept as 2; in the 8.5 form 0 and 1 are no yes or no
pub new_kept :
    (cell Shown [] (bytes "message") ≡ 2 ∷ [])
    × (cell Shown [] (bytes "true") ≡ 1 ∷ [])
    × (cell Shown [] (bytes "1") ≡ [])
    × (cell Truth [] (bytes "false") ≡ 0 ∷ [])
    × (cell Truth [] (bytes "message") ≡ [])
unfolding cell spelled truth shown same
new_kept = (refl, refl, refl, refl, refl)
