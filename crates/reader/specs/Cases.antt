-- Small dossiers and what is answered to them, by computation. Assumes nothing.
use Rattle.std.specs.Prelude.{ℕ, ◌≡◌, refl, List, [], ◌∷◌, ◌++◌, replicate, Ok, Err}
use Prim.Native.String.{String}
use Rattle.lists.specs.Text.{bytes, same}
use Rattle.lists.specs.Part.{part}
use Rattle.lists.specs.Rows.{flat, rows_of}
use Rattle.lists.specs.BigEndian.{spelled}
use Rattle.clock.specs.Date.{days_in, is_date}
use Rattle.clock.specs.Moment.{month_start, day_count}
use Rattle.syntax.specs.Machine.{field_step, escape_step, first_escape_step, null_step, return_step, start_step, mark_step, step, accepting, run, fault}
use Rattle.turbo.specs.Escape.{escaped, decode}
use Rattle.turbo.specs.Split.{until, past, fields, field_at}
use Rattle.turbo_lines.specs.Lines.{lines_from, first_long, mark_of, after_mark}
use Rattle.turbo_labels.specs.Columns.{count, column_of, field_under, any_twice}
use Rattle.field_types.specs.Digits.{numeral, triple}
use Rattle.field_types.specs.Times.{clock, time}
use Rattle.field_types.specs.Dates.{date}
use Rattle.field_types.specs.Stamps.{utc_offset, stamp_seconds, stamp}
use Rattle.field_types.specs.Names.{bit, status, stop_type, flexible, truth, shown}
use Rattle.texts.specs.Texts.{text}
use Rattle.columns.specs.declared.Form as Forms
use Rattle.columns.specs.declared.Form.TheVariants.{Old, New}
use Rattle.columns.specs.declared.Table.TheVariants.{Message, Calendar}
use Rattle.columns.specs.Cell.{cell}
use Rattle.columns.specs.Tables.{message_columns, calendar_columns, columns_in, table_name, names, misses, row_of, wrong_column, label_fault}
use Rattle.register.specs.Register.{has_pair, grants}
use Rattle.reader.specs.declared.Fault.TheVariants.{Syntax, Long, Form, Field, Owner}
use Rattle.reader.specs.Items.{items}
use Rattle.reader.specs.Rules.{Reading, first_line, first_column, data_rows, answer_to, reading_of}

-- lines, each with its line end
abbrev joined : List String → List ℕ
joined [] = []
joined (l ∷ ls) = bytes l ++ 13 ∷ 10 ∷ joined ls

-- ---- a calendar, its columns out of order and an unwanted one among them

abbrev calendar : List String → Reading
calendar ls = reading_of Calendar [] 0 (joined ("\\G" ∷ "\\TLOCALSERVICEGROUPVALIDITY" ∷ "\\LOperationDate|X|LocalServiceLevelCode|DataOwnerCode" ∷ ls))

pub calendars :
    (calendar [] ≡ Ok 0)
    × (calendar ("2016-03-01||A|CXX" ∷ "2016-02-29|\\0|A|CXX" ∷ []) ≡ Ok 2)
    -- the first wrong field in reading order
    × (calendar ("2016-03-01||A|CXX" ∷ "2017-02-29||A|" ∷ "||A|CXX" ∷ []) ≡ Err (Field 5 1))
    × (calendar ("2016-03-01||A|" ∷ "2017-02-29||A|CXX" ∷ []) ≡ Err (Field 4 4))
    -- a field too few, also behind a wrong field, and a missing column in a table that comes later
    × (calendar ("2017-02-29||A|CXX" ∷ "2016-03-01||A" ∷ []) ≡ Err (Form 5))
    × (calendar ("2017-02-29||A|CXX" ∷ "\\TLOCALSERVICEGROUPVALIDITY" ∷ "\\LOperationDate" ∷ []) ≡ Err (Form 6))
    -- an escape that there is not, behind all of these
    × (calendar ("2017-02-29||A|CXX" ∷ "2016-03-01||A" ∷ "\\x" ∷ []) ≡ Err (Syntax 123))
unfolding reading_of fault run accepting step mark_step start_step return_step null_step first_escape_step escape_step field_step answer_to first_line first_column data_rows items lines_from first_long mark_of after_mark until past fields field_at field_under table_name label_fault any_twice count column_of names columns_in calendar_columns misses same wrong_column row_of flat cell spelled text decode escaped date is_date days_in triple numeral
calendars = (refl, refl, refl, refl, refl, refl, refl)

-- ---- a message of one row, its owner registered for sender 1, and for the desk, to which that grants nothing

abbrev register : List ℕ
register = 1 ∷ bytes "CXX" ++ replicate 7 0 ++ 0 ∷ bytes "CXX" ++ replicate 7 0

abbrev message_in : Forms.Form → ℕ → String → String → Reading
message_in form sender labels row = reading_of (Message form) register sender (joined ("\\G" ∷ "\\TDATEDPASSTIME" ∷ labels ∷ row ∷ []))

abbrev message : ℕ → String → Reading
message sender row =
    message_in Old sender
    "\\LDataOwnerCode|OperationDate|LinePlanningNumber|VehicleJourneyNumber|FortifyOrderNumber|UserStopCode|UserStopOrderNumber|DestinationCode|LastUpdateTimeStamp|TripStopStatus|ExpectedArrivalTime|ExpectedDepartureTime|JourneyStopType"
    row

pub messages :
    (message 1 "CXX|2016-03-01|A031|122|0|S1|15|CIOS|2016-03-01T15:15:30+01:00|CANCEL|24:10:00|24:10:30|INTERMEDIATE" ≡ Ok 1)
    × (message 2 "CXX|2016-03-01|A031|122|0|S1|15|CIOS|2016-03-01T15:15:30+01:00|CANCEL|24:10:00|24:10:30|INTERMEDIATE" ≡ Err (Owner 4))
    × (message 0 "CXX|2016-03-01|A031|122|0|S1|15|CIOS|2016-03-01T15:15:30+01:00|CANCEL|24:10:00|24:10:30|INTERMEDIATE" ≡ Err (Owner 4))
    × (message 1 "RET|2016-03-01|A031|122|0|S1|15|CIOS|2016-03-01T15:15:30+01:00|CANCEL|24:10:00|24:10:30|INTERMEDIATE" ≡ Err (Owner 4))
    -- no arrival at INTERMEDIATE; no departure at LAST is right
    × (message 2 "CXX|2016-03-01|A031|122|0|S1|15|CIOS|2016-03-01T15:15:30+01:00|CANCEL|\\0|24:10:30|INTERMEDIATE" ≡ Err (Field 4 11))
    × (message 1 "CXX|2016-03-01|A031|122|0|S1|15|CIOS|2016-03-01T15:15:30+01:00|CANCEL|24:10:00|\\0|LAST" ≡ Ok 1)
unfolding reading_of fault run accepting step mark_step start_step return_step null_step first_escape_step escape_step field_step answer_to first_line first_column data_rows items lines_from first_long mark_of after_mark until past fields field_at field_under table_name label_fault any_twice count column_of names columns_in message_columns misses same wrong_column row_of flat cell spelled text decode escaped date is_date days_in triple numeral stamp stamp_seconds month_start day_count utc_offset clock time status stop_type bit flexible part has_pair grants rows_of
messages = (refl, refl, refl, refl, refl, refl)

-- the 8.5 form: its own words, and its own name of what is shown of a cancelled journey; the old name is not wanted there, nor the new one in the old form
abbrev either : Forms.Form → String → Reading
either form row =
    message_in form 1
    "\\LDataOwnerCode|OperationDate|LinePlanningNumber|VehicleJourneyNumber|FortifyOrderNumber|UserStopCode|UserStopOrderNumber|DestinationCode|LastUpdateTimeStamp|TripStopStatus|ExpectedArrivalTime|ExpectedDepartureTime|JourneyStopType|ShowCancelledJourney|Monitored|ShowCancelledTrip"
    row

pub forms :
    (either New "CXX|2016-03-01|A031|122|0|S1|15|CIOS|2016-03-01T15:15:30+01:00|CANCEL|24:10:00|24:10:30|INTERMEDIATE|message|true|?" ≡ Ok 1)
    × (either New "CXX|2016-03-01|A031|122|0|S1|15|CIOS|2016-03-01T15:15:30+01:00|CANCEL|24:10:00|24:10:30|INTERMEDIATE|TRUE|true|?" ≡ Err (Field 4 14))
    × (either New "CXX|2016-03-01|A031|122|0|S1|15|CIOS|2016-03-01T15:15:30+01:00|CANCEL|24:10:00|24:10:30|INTERMEDIATE|message|1|1" ≡ Err (Field 4 15))
    × (either Old "CXX|2016-03-01|A031|122|0|S1|15|CIOS|2016-03-01T15:15:30+01:00|CANCEL|24:10:00|24:10:30|INTERMEDIATE|?|1|0" ≡ Ok 1)
    × (either Old "CXX|2016-03-01|A031|122|0|S1|15|CIOS|2016-03-01T15:15:30+01:00|CANCEL|24:10:00|24:10:30|INTERMEDIATE|message|true|1" ≡ Err (Field 4 15))
    × (either Old "CXX|2016-03-01|A031|122|0|S1|15|CIOS|2016-03-01T15:15:30+01:00|CANCEL|24:10:00|24:10:30|INTERMEDIATE|message|1|true" ≡ Err (Field 4 16))
unfolding reading_of fault run accepting step mark_step start_step return_step null_step first_escape_step escape_step field_step answer_to first_line first_column data_rows items lines_from first_long mark_of after_mark until past fields field_at field_under table_name label_fault any_twice count column_of names columns_in message_columns misses same wrong_column row_of flat cell spelled text decode escaped date is_date days_in triple numeral stamp stamp_seconds month_start day_count utc_offset clock time status stop_type bit flexible truth shown part has_pair grants rows_of
forms = (refl, refl, refl, refl, refl, refl)

-- ---- a line of 4,096 bytes with its line end, and of 4,097; a fault of form before it and one of syntax behind it

abbrev grouped : ℕ → List ℕ → Reading
grouped n later = reading_of Calendar [] 0 (bytes "\\G" ++ replicate n 65 ++ 13 ∷ 10 ∷ later)

pub long_lines :
    (grouped 4092 [] ≡ Ok 0)
    × (grouped 4093 [] ≡ Err (Long 1))
    × (grouped 4093 (joined ("\\TLOCALSERVICEGROUPVALIDITY" ∷ "\\LOperationDate" ∷ [])) ≡ Err (Long 1))
    × (grouped 4093 (joined ("\\x" ∷ [])) ≡ Err (Syntax 4098))
unfolding reading_of fault run accepting step mark_step start_step return_step null_step first_escape_step escape_step field_step answer_to first_line first_column data_rows items lines_from first_long mark_of after_mark until past fields table_name label_fault any_twice count column_of names columns_in calendar_columns misses same
long_lines = (refl, refl, refl, refl)
