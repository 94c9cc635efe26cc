-- Where each field of a passage stands, and how wide it is, in bytes. Assumes nothing.
use Rattle.std.specs.Prelude.{ℕ, ◌+◌, List, get_or}
use Rattle.lists.specs.Part.{part}
use Rattle.lists.specs.BigEndian.{number}

-- a text, padded with zero bytes
abbrev pub text_wide : ℕ
text_wide = 10

-- a date as YYYYMMDD
abbrev pub date_wide : ℕ
date_wide = 4

-- a journey number
abbrev pub journey_wide : ℕ
journey_wide = 4

-- an order number of a stop
abbrev pub order_wide : ℕ
order_wide = 2

-- a timestamp
abbrev pub stamp_wide : ℕ
stamp_wide = 4

-- a time of the operating day
abbrev pub time_wide : ℕ
time_wide = 3

-- ---- key: owner, date, line, journey, fortify, stop, order number

abbrev pub owner_at : ℕ
owner_at = 0

abbrev pub date_offset : ℕ
date_offset = owner_at + text_wide

abbrev pub line_at : ℕ
line_at = date_offset + date_wide

abbrev pub journey_at : ℕ
journey_at = line_at + text_wide

abbrev pub fortify_at : ℕ
fortify_at = journey_at + journey_wide

abbrev pub stop_at : ℕ
stop_at = fortify_at + 1

abbrev pub order_at : ℕ
order_at = stop_at + text_wide

abbrev pub key_wide : ℕ
key_wide = order_at + order_wide

-- ---- body: key, destination, timestamp, status, arrival, departure, stop type, show cancelled, flexible, monitored

abbrev pub destination_at : ℕ
destination_at = key_wide

abbrev pub stamp_at : ℕ
stamp_at = destination_at + text_wide

abbrev pub status_at : ℕ
status_at = stamp_at + stamp_wide

abbrev pub arrival_at : ℕ
arrival_at = status_at + 1

abbrev pub departure_at : ℕ
departure_at = arrival_at + time_wide

abbrev pub stop_type_at : ℕ
stop_type_at = departure_at + time_wide

abbrev pub show_cancelled_at : ℕ
show_cancelled_at = stop_type_at + 1

abbrev pub flexible_at : ℕ
flexible_at = show_cancelled_at + 1

abbrev pub monitored_at : ℕ
monitored_at = flexible_at + 1

abbrev pub body_wide : ℕ
body_wide = monitored_at + 1

-- ---- row: body, heard

abbrev pub heard_at : ℕ
heard_at = body_wide

abbrev pub row_wide : ℕ
row_wide = heard_at + 1

-- ---- contents that stand for none

-- a time that is missing
abbrev pub missing : ℕ
missing = 16777215

-- an absent optional of an update: the held content stays
abbrev pub kept : ℕ
kept = 255

-- ---- the fields of a key, also of the body or row that begins with it

abbrev pub key_of : List ℕ → List ℕ
key_of b = part 0 key_wide b

abbrev pub owner_of : List ℕ → List ℕ
owner_of b = part owner_at text_wide b

abbrev pub date_of : List ℕ → ℕ
date_of b = number (part date_offset date_wide b)

abbrev pub line_of : List ℕ → List ℕ
line_of b = part line_at text_wide b

abbrev pub journey_of : List ℕ → ℕ
journey_of b = number (part journey_at journey_wide b)

abbrev pub fortify_of : List ℕ → ℕ
fortify_of b = get_or b fortify_at 0

abbrev pub stop_of : List ℕ → List ℕ
stop_of b = part stop_at text_wide b

abbrev pub order_of : List ℕ → ℕ
order_of b = number (part order_at order_wide b)

-- ---- the other fields of a body, also of the row that begins with it

abbrev pub destination_of : List ℕ → List ℕ
destination_of b = part destination_at text_wide b

abbrev pub stamp_of : List ℕ → ℕ
stamp_of b = number (part stamp_at stamp_wide b)

abbrev pub status_of : List ℕ → ℕ
status_of b = get_or b status_at 0

abbrev pub arrival_of : List ℕ → ℕ
arrival_of b = number (part arrival_at time_wide b)

abbrev pub departure_of : List ℕ → ℕ
departure_of b = number (part departure_at time_wide b)

abbrev pub stop_type_of : List ℕ → ℕ
stop_type_of b = get_or b stop_type_at 0

abbrev pub show_cancelled_of : List ℕ → ℕ
show_cancelled_of b = get_or b show_cancelled_at 0

abbrev pub flexible_of : List ℕ → ℕ
flexible_of b = get_or b flexible_at 0

abbrev pub monitored_of : List ℕ → ℕ
monitored_of b = get_or b monitored_at 0

-- ---- the body of a row, and its last field

abbrev pub body_of : List ℕ → List ℕ
body_of r = part 0 body_wide r

abbrev pub heard_of : List ℕ → ℕ
heard_of r = get_or r heard_at 0
