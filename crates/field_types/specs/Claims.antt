-- What is claimed of the types of fields. Assumes nothing.
use Rattle.std.specs.Prelude.{ℕ, ◌+◌, ◌*◌, ◌^◌, ◌<◌, ◌≤◌, ◌≡◌, Bool, true, List, [], ◌∷◌, ◌↔◌, length, get_or, Option, Some, None}
use Prim.Native.String.{String}
use Rattle.lists.specs.Text.{bytes}
use Rattle.clock.specs.declared.OperatingSeconds.{OperatingSeconds}
use Rattle.clock.specs.Date.{is_date}
use Rattle.field_types.specs.Digits.{numeral}
use Rattle.field_types.specs.Times.{time}
use Rattle.field_types.specs.Dates.{date}
use Rattle.field_types.specs.Stamps.{stamp_seconds, stamp, in_stamp_range}
use Rattle.field_types.specs.Names.{bit, status, stop_type, flexible, truth, shown}
use Rattle.field_types.specs.Written.{written, written_time, written_date, written_stamp}

-- ---- numbers, times, dates and stamps: what is read is exactly what is written

-- A field is read as n exactly where it is n, written with 1 to most digits.
abbrev pub NumbersRead : Type 0
NumbersRead =
    (most : ℕ) (f : List ℕ) (n : ℕ)
    → (numeral most f ≡ Some n) ↔ ((k : ℕ) × (1 ≤ k) × (k ≤ most) × (n < 10 ^ k) × (f ≡ written k n))

-- A field is read as a time exactly where it is that time, from 0 to 115,199, written HH:MM:SS.
abbrev pub TimesRead : Type 0
TimesRead =
    (f : List ℕ) (s : OperatingSeconds) → (time f ≡ Some s) ↔ ((s.0 < 115200) × (f ≡ written_time s.0))

-- A field is read as a date exactly where it is that date, written YYYY-MM-DD.
abbrev pub DatesRead : Type 0
DatesRead = (f : List ℕ) (d : ℕ) → (date f ≡ Some d) ↔ ((is_date d ≡ true) × (f ≡ written_date d))

-- A field is a second of a date, written up to 14:00 west or east of UTC, and n its seconds since 1970.
abbrev pub WrittenAs : List ℕ → ℕ → Type 0
WrittenAs f n =
    (west : Bool) × (d : ℕ) × (s : ℕ) × (m : ℕ)
    × (is_date d ≡ true)
    × (s < 86400)
    × (m ≤ 840)
    × (f ≡ written_stamp west d s m)
    × (n ≡ stamp_seconds west d s (m * 60))

-- A field is read as a stamp exactly where it is written so.
abbrev pub StampsRead : Type 0
StampsRead = (f : List ℕ) (n : ℕ) → (stamp f ≡ Some n) ↔ WrittenAs f n

-- The stamps that a U field can give are exactly those from 946,634,400 to 4,102,495,199.
abbrev pub StampsGiven : Type 0
StampsGiven = (n : ℕ) → ((946634400 ≤ n) × (n ≤ 4102495199)) ↔ ((f : List ℕ) × (stamp f ≡ Some n))

-- The test of a stamp's range passes exactly there.
abbrev pub StampsTested : Type 0
StampsTested = (n : ℕ) → (in_stamp_range n ≡ true) ↔ ((946634400 ≤ n) × (n ≤ 4102495199))

-- ---- words

-- A field is read as k and n more exactly where it is the word at place n of ws.
abbrev pub WordsExactly : (List ℕ → Option ℕ) → ℕ → List String → Type 0
WordsExactly rule k ws = (f : List ℕ) (n : ℕ) → (rule f ≡ Some (k + n)) ↔ ((n < length ws) × (f ≡ bytes (get_or ws n "")))

-- What the rule reads is from k on and below m.
abbrev pub WordsWithin : (List ℕ → Option ℕ) → ℕ → ℕ → Type 0
WordsWithin rule k m = (f : List ℕ) (n : ℕ) → rule f ≡ Some n → (k ≤ n) × (n < m)

-- B gives 0 or 1, a status 0 to 5, a stop type 0 to 2, a ShowFlexibleTrip 1 to 3, a yes or no of the 8.5 form 0 or 1, a ShowCancelledJourney 0 to 2,
-- each for its own word and for no other bytes.
abbrev pub Words : Type 0
Words =
    WordsWithin bit 0 2
    × WordsWithin status 0 6
    × WordsWithin stop_type 0 3
    × WordsWithin flexible 1 4
    × WordsWithin truth 0 2
    × WordsWithin shown 0 3
    × WordsExactly bit 0 ("0" ∷ "1" ∷ [])
    × WordsExactly status 0 ("PLANNED" ∷ "CANCEL" ∷ "UNKNOWN" ∷ "DRIVING" ∷ "ARRIVED" ∷ "PASSED" ∷ [])
    × WordsExactly stop_type 0 ("FIRST" ∷ "INTERMEDIATE" ∷ "LAST" ∷ [])
    × WordsExactly flexible 1 ("TRUE" ∷ "FALSE" ∷ "REALTIME" ∷ [])
    × WordsExactly truth 0 ("false" ∷ "true" ∷ [])
    × WordsExactly shown 0 ("false" ∷ "true" ∷ "message" ∷ [])

-- ---- fields outside every type

-- No type reads the field.
abbrev pub Outside : List ℕ → Type 0
Outside f =
    ((most : ℕ) → numeral most f ≡ None)
    × (time f ≡ None)
    × (date f ≡ None)
    × (stamp f ≡ None)
    × (bit f ≡ None)
    × (status f ≡ None)
    × (stop_type f ≡ None)
    × (flexible f ≡ None)
    × (truth f ≡ None)
    × (shown f ≡ None)

-- A field with no bytes is outside every type.
abbrev pub EmptyOutside : Type 0
EmptyOutside = Outside []

-- A field `\0` is outside every type.
abbrev pub NoContentOutside : Type 0
NoContentOutside = Outside (bytes "\\0")

-- All of them.
abbrev pub All : Type 0
All =
    NumbersRead
    × TimesRead
    × DatesRead
    × StampsRead
    × StampsGiven
    × StampsTested
    × Words
    × EmptyOutside
    × NoContentOutside
