-- The layout as the paper gives it, and the rules run on small examples. Assumes nothing.
use Rattle.std.specs.Prelude.{◌≡◌, refl, true, false, List, [], ◌∷◌, ◌++◌, ℕ}
use Rattle.lists.specs.Text.{bytes}
use Rattle.lists.specs.Part.{part}
use Rattle.lists.specs.BigEndian.{number, spelled}
use Rattle.clock.specs.Date.{days_in, is_date}
use Rattle.texts.specs.Texts.{padded}
use Rattle.passage.specs.Layout.{owner_at, date_offset, line_at, journey_at, fortify_at, stop_at, order_at, key_wide, destination_at, stamp_at, status_at, arrival_at, departure_at, stop_type_at, show_cancelled_at, flexible_at, monitored_at, body_wide, heard_at, row_wide, missing, kept, key_of, date_of, journey_of, departure_of, flexible_of}
use Rattle.passage.specs.Ranges.{padded_text, key_in_range, times_in_range, common_in_range, update_in_range, plan_in_range, heard_in_range, row_in_range}

-- each offset and width of the paper
layout-case :
    (owner_at ≡ 0)
    × (date_offset ≡ 10)
    × (line_at ≡ 14)
    × (journey_at ≡ 24)
    × (fortify_at ≡ 28)
    × (stop_at ≡ 29)
    × (order_at ≡ 39)
    × (key_wide ≡ 41)
    × (destination_at ≡ 41)
    × (stamp_at ≡ 51)
    × (status_at ≡ 55)
    × (arrival_at ≡ 56)
    × (departure_at ≡ 59)
    × (stop_type_at ≡ 62)
    × (show_cancelled_at ≡ 63)
    × (flexible_at ≡ 64)
    × (monitored_at ≡ 65)
    × (body_wide ≡ 66)
    × (heard_at ≡ 66)
    × (row_wide ≡ 67)
layout-case = (
  refl,
  refl,
  refl,
  refl,
  refl,
  refl,
  refl,
  refl,
  refl,
  refl,
  refl,
  refl,
  refl,
  refl,
  refl,
  refl,
  refl,
  refl,
  refl,
  refl,
)

-- a text of spaces may be kept; ten zero bytes, a zero byte inside, a byte 31 or 127, nine bytes and eleven may not
text-case :
    (padded_text (padded (bytes "CXX")) ≡ true)
    × (padded_text (bytes "          ") ≡ true)
    × (padded_text (padded []) ≡ false)
    × (padded_text (65 ∷ 0 ∷ 65 ∷ 0 ∷ 0 ∷ 0 ∷ 0 ∷ 0 ∷ 0 ∷ 0 ∷ []) ≡ false)
    × (padded_text (padded (65 ∷ 31 ∷ [])) ≡ false)
    × (padded_text (padded (65 ∷ 127 ∷ [])) ≡ false)
    × (padded_text (bytes "AAAAAAAAA") ≡ false)
    × (padded_text (bytes "AAAAAAAAAAA") ≡ false)
unfolding padded_text
text-case = (refl, refl, refl, refl, refl, refl, refl, refl)

-- the key of journey 31 of line A031 on 2016-03-01 at stop S1, with this fortify number
key : ℕ → List ℕ
key fortify = padded (bytes "CXX") ++ spelled 4 20160301 ++ padded (bytes "A031") ++ spelled 4 31 ++ fortify ∷ padded (bytes "S1") ++ spelled 2 7

-- a body of that key to CIOS: timestamp, status, arrival, departure, and the four last bytes
body : ℕ → ℕ → ℕ → ℕ → ℕ → List ℕ → List ℕ
body fortify stamp status arrival departure last =
    key fortify ++ padded (bytes "CIOS") ++ spelled 4 stamp ++ status ∷ spelled 3 arrival ++ spelled 3 departure ++ last

-- what stands at a body's offsets is read from there
read-case :
    (key_of (body 0 1456841730 3 87000 87060 (1 ∷ 1 ∷ 2 ∷ 0 ∷ [])) ≡ key 0)
    × (date_of (key 0) ≡ 20160301)
    × (journey_of (key 0) ≡ 31)
    × (departure_of (body 0 1456841730 3 87000 87060 (1 ∷ 1 ∷ 2 ∷ 0 ∷ [])) ≡ 87060)
    × (flexible_of (body 0 1456841730 3 87000 87060 (1 ∷ 1 ∷ 2 ∷ 0 ∷ [])) ≡ 2)
unfolding key body part number spelled
read-case = (refl, refl, refl, refl, refl)

-- fortify numbers go to 99
key-case : (key_in_range (key 99) ≡ true) × (key_in_range (key 100) ≡ false)
unfolding key key_in_range padded_text part number spelled is_date days_in
key-case = (refl, refl)

-- an arrival may be missing at FIRST and a departure at LAST, neither at INTERMEDIATE; 31:59:59 is the last time
times-case :
    (times_in_range 0 missing 0 ≡ true)
    × (times_in_range 2 0 missing ≡ true)
    × (times_in_range 1 missing 0 ≡ false)
    × (times_in_range 0 0 missing ≡ false)
    × (times_in_range 1 115199 115200 ≡ false)
    × (times_in_range 3 0 0 ≡ false)
unfolding times_in_range
times-case = (refl, refl, refl, refl, refl, refl)

-- an update may say that what is held stays, and has never flexible 0
update-case :
    (update_in_range (body 0 1456841730 3 87000 87060 (1 ∷ kept ∷ kept ∷ kept ∷ [])) ≡ true)
    × (update_in_range (body 0 1456841730 3 87000 87060 (1 ∷ 1 ∷ 0 ∷ 0 ∷ [])) ≡ false)
    × (update_in_range (body 0 0 3 87000 87060 (1 ∷ 1 ∷ 1 ∷ 0 ∷ [])) ≡ false)
    × (update_in_range (body 0 1456841730 6 87000 87060 (1 ∷ 1 ∷ 1 ∷ 0 ∷ [])) ≡ false)
unfolding key body update_in_range common_in_range times_in_range key_in_range padded_text part number spelled is_date days_in
update-case = (refl, refl, refl, refl)

-- a plan entry has what open writes
plan-case :
    (plan_in_range (body 0 0 0 87000 87060 (1 ∷ 1 ∷ 0 ∷ 0 ∷ [])) ≡ true)
    × (plan_in_range (body 0 0 1 87000 87060 (1 ∷ 1 ∷ 0 ∷ 0 ∷ [])) ≡ false)
    × (plan_in_range (body 0 0 0 87000 87060 (1 ∷ 1 ∷ kept ∷ 0 ∷ [])) ≡ false)
unfolding key body plan_in_range common_in_range times_in_range key_in_range padded_text part number spelled is_date days_in
plan-case = (refl, refl, refl)

-- a row has timestamp 0 exactly with heard 0, where any status may stand, and never 255
row-case :
    (row_in_range (body 0 1456841730 3 87000 87060 (1 ∷ 1 ∷ 0 ∷ 0 ∷ 1 ∷ [])) ≡ true)
    × (row_in_range (body 0 0 5 87000 87060 (1 ∷ 1 ∷ 0 ∷ 0 ∷ 0 ∷ [])) ≡ true)
    × (row_in_range (body 0 0 3 87000 87060 (1 ∷ 1 ∷ 0 ∷ 0 ∷ 1 ∷ [])) ≡ false)
    × (row_in_range (body 0 1456841730 3 87000 87060 (1 ∷ 1 ∷ 0 ∷ 0 ∷ 0 ∷ [])) ≡ false)
    × (row_in_range (body 0 1456841730 3 87000 87060 (1 ∷ 1 ∷ kept ∷ 0 ∷ 1 ∷ [])) ≡ false)
unfolding key body row_in_range heard_in_range common_in_range times_in_range key_in_range padded_text part number spelled is_date days_in
row-case = (refl, refl, refl, refl, refl)
