-- Fields of each type, by computation. Assumes nothing.
use Rattle.std.specs.Prelude.{◌≡◌, refl, Some, None}
use Rattle.lists.specs.Text.{bytes, same}
use Rattle.clock.specs.Date.{days_in, is_date}
use Rattle.clock.specs.Moment.{month_start, day_count, moment_of}
use Rattle.field_types.specs.Digits.{numeral, triple}
use Rattle.field_types.specs.Times.{clock, time}
use Rattle.field_types.specs.Dates.{date}
use Rattle.field_types.specs.Stamps.{utc_offset, stamp_seconds, stamp}
use Rattle.field_types.specs.Names.{bit, status, stop_type, flexible, truth, shown}

-- P1: 31:59:59 is 115,199; 32:00:00 is refused
pub P1 : (time (bytes "31:59:59") ≡ Some (record { 0 = 115199 })) × (time (bytes "32:00:00") ≡ None)
unfolding time clock triple numeral
P1 = (refl, refl)

-- P2: 2000-02-29 is a date, 2023-02-29 not
pub P2 : (date (bytes "2000-02-29") ≡ Some 20000229) × (date (bytes "2023-02-29") ≡ None)
unfolding date is_date days_in triple numeral
P2 = (refl, refl)

-- P3: a stamp an hour east of UTC
pub P3 : stamp (bytes "2016-03-01T15:15:30+01:00") ≡ Some 1456841730
unfolding stamp stamp_seconds month_start day_count utc_offset clock date is_date days_in triple numeral
P3 = refl

-- leading zeros count as digits and not in the value
pub zeros_read : (numeral 6 (bytes "007") ≡ Some 7) × (numeral 6 (bytes "0000001") ≡ None)
unfolding numeral
zeros_read = (refl, refl)

-- 25:20:00 on 2017-01-01 is 01:20:00 on 2017-01-02
pub next_day : moment_of 20170101 (record { 0 = 91200 }) ≡ moment_of 20170102 (record { 0 = 4800 })
unfolding day_count month_start days_in
next_day = refl

-- and these are the times that T gives
pub next_day_times :
    (time (bytes "25:20:00") ≡ Some (record { 0 = 91200 })) × (time (bytes "01:20:00") ≡ Some (record { 0 = 4800 }))
unfolding time clock triple numeral
next_day_times = (refl, refl)

-- an offset up to 14:00 and no further; west of UTC is later there
pub offsets_read :
    (stamp (bytes "2000-01-01T00:00:00+14:00") ≡ Some 946634400)
    × (stamp (bytes "2099-12-31T23:59:59-14:00") ≡ Some 4102495199)
    × (stamp (bytes "2016-03-01T15:15:30+14:01") ≡ None)
unfolding stamp stamp_seconds month_start day_count utc_offset clock date is_date days_in triple numeral
offsets_read = (refl, refl, refl)

-- B is one digit
pub bits_read : (bit (bytes "1") ≡ Some 1) × (bit (bytes "00") ≡ None)
unfolding bit same
bits_read = (refl, refl)

-- each status in its order; PLAN is refused
pub statuses_read :
    (status (bytes "PLANNED") ≡ Some 0)
    × (status (bytes "CANCEL") ≡ Some 1)
    × (status (bytes "UNKNOWN") ≡ Some 2)
    × (status (bytes "DRIVING") ≡ Some 3)
    × (status (bytes "ARRIVED") ≡ Some 4)
    × (status (bytes "PASSED") ≡ Some 5)
    × (status (bytes "PLAN") ≡ None)
unfolding status same
statuses_read = (refl, refl, refl, refl, refl, refl, refl)

-- each stop type, and each word of ShowFlexibleTrip
pub words_read :
    (stop_type (bytes "FIRST") ≡ Some 0)
    × (stop_type (bytes "INTERMEDIATE") ≡ Some 1)
    × (stop_type (bytes "LAST") ≡ Some 2)
    × (flexible (bytes "TRUE") ≡ Some 1)
    × (flexible (bytes "FALSE") ≡ Some 2)
    × (flexible (bytes "REALTIME") ≡ Some 3)
unfolding stop_type flexible same
words_read = (refl, refl, refl, refl, refl, refl)

-- the words of the 8.5 form, in lower case only
pub new_words_read :
    (truth (bytes "true") ≡ Some 1)
    × (truth (bytes "TRUE") ≡ None)
    × (truth (bytes "message") ≡ None)
    × (truth (bytes "1") ≡ None)
    × (shown (bytes "false") ≡ Some 0)
    × (shown (bytes "message") ≡ Some 2)
    × (shown (bytes "Message") ≡ None)
    × (shown (bytes "0") ≡ None)
unfolding truth shown same
new_words_read = (refl, refl, refl, refl, refl, refl, refl, refl)
