-- What a wanted column's field gives: the bytes that are kept of it, none where it is outside its type. Assumes nothing.
use Rattle.std.specs.Prelude.{ℕ, List, [], ◌∷◌, Option, Some, None}
use Rattle.lists.specs.Logic.{on}
use Rattle.lists.specs.Text.{bytes, same}
use Rattle.lists.specs.BigEndian.{spelled}
use Rattle.clock.specs.declared.OperatingSeconds.{OperatingSeconds}
use Rattle.field_types.specs.Digits as Digits
use Rattle.field_types.specs.Dates as Dates
use Rattle.field_types.specs.Times as Clock
use Rattle.field_types.specs.Stamps as Stamps
use Rattle.field_types.specs.Names as Names
use Rattle.texts.specs.Texts as Texts
use Rattle.columns.specs.declared.Kind.{Kind}
use Rattle.columns.specs.declared.Kind.TheVariants as Kinds

-- how many bytes are kept of a column of each kind
unfoldable pub width : Kind → ℕ
width Kinds.Text = 10
width Kinds.Date = 4
width Kinds.Journey = 4
width Kinds.Fortify = 1
width Kinds.Order = 2
width Kinds.Stamp = 4
width Kinds.Status = 1
width Kinds.Arrival = 3
width Kinds.Departure = 3
width Kinds.StopType = 1
width Kinds.Bit = 1
width Kinds.Flexible = 1
width Kinds.Truth = 1
width Kinds.Shown = 1

-- no content
abbrev pub null : List ℕ
null = bytes "\\0"

-- a number in w bytes, a time in three, a text in ten
abbrev pub number_cell : ℕ → Option ℕ → List ℕ
number_cell w (Some n) = spelled w n
number_cell w None = []

abbrev pub time_cell : Option OperatingSeconds → List ℕ
time_cell (Some s) = spelled 3 s.0
time_cell None = []

abbrev pub text_cell : Option (List ℕ) → List ℕ
text_cell (Some t) = t
text_cell None = []

-- a missing time
abbrev pub missing_time : List ℕ
missing_time = 255 ∷ 255 ∷ 255 ∷ []

-- a time that may be missing where the row's own stop type is `word`
abbrev pub time_at : List ℕ → List ℕ → List ℕ → List ℕ
time_at word stop f = on (same f null) (on (same stop word) missing_time []) (time_cell (Clock.time f))

-- the bytes kept of the field f in a column of each kind, where the field of the row's own stop type is `stop`: a text, D, N6, N2, N3, U, a status, T twice, a stop type, B, a flexible, in the 8.5 form a yes or no and a ShowCancelledJourney
unfoldable pub cell : Kind → List ℕ → List ℕ → List ℕ
cell Kinds.Text stop f = text_cell (Texts.text f)
cell Kinds.Date stop f = number_cell 4 (Dates.date f)
cell Kinds.Journey stop f = number_cell 4 (Digits.numeral 6 f)
cell Kinds.Fortify stop f = number_cell 1 (Digits.numeral 2 f)
cell Kinds.Order stop f = number_cell 2 (Digits.numeral 3 f)
cell Kinds.Stamp stop f = number_cell 4 (Stamps.stamp f)
cell Kinds.Status stop f = number_cell 1 (Names.status f)
cell Kinds.Arrival stop f = time_at (bytes "FIRST") stop f
cell Kinds.Departure stop f = time_at (bytes "LAST") stop f
cell Kinds.StopType stop f = number_cell 1 (Names.stop_type f)
cell Kinds.Bit stop f = number_cell 1 (Names.bit f)
cell Kinds.Flexible stop f = number_cell 1 (Names.flexible f)
cell Kinds.Truth stop f = number_cell 1 (Names.truth f)
cell Kinds.Shown stop f = number_cell 1 (Names.shown f)
