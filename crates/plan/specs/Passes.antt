-- The plan passage that a pass time and a validity give. Assumes nothing.
use Rattle.std.specs.Prelude.{ℕ, ◌+◌, ◌-◌, List, [], ◌∷◌, ◌++◌, get_or, replicate}
use Rattle.lists.specs.Part.{part}
use Rattle.passage.specs.Layout.{text_wide, date_wide, stamp_wide, line_at, key_wide, arrival_at, show_cancelled_at, owner_of}
use Rattle.reader.specs.Passes.{pass_line_at, pass_level_at, pass_destination_at, pass_arrival_at, pass_flexible_at, validity_level_at, validity_date_at}

-- ---- what the two share besides the owner: the service level

abbrev pub pass_level : List ℕ → List ℕ
pass_level p = part pass_level_at text_wide p

abbrev pub validity_level : List ℕ → List ℕ
validity_level v = part validity_level_at text_wide v

-- ---- the plan passage of a pass time on the validity's date

-- line, journey, fortify, stop and order number stand side by side in a pass time, as in a key
abbrev pub pass_trip_at : ℕ
pass_trip_at = pass_line_at

abbrev pub trip_wide : ℕ
trip_wide = key_wide - line_at

-- arrival, departure and stop type stand side by side in a pass time, as in a body
abbrev pub pass_times_at : ℕ
pass_times_at = pass_arrival_at

abbrev pub times_wide : ℕ
times_wide = show_cancelled_at - arrival_at

-- its key: owner, date, line to order number
abbrev pub plan_key : List ℕ → List ℕ → List ℕ
plan_key p v = owner_of p ++ part validity_date_at date_wide v ++ part pass_trip_at trip_wide p

-- what follows: destination, timestamp 0 and PLANNED, times and stop type, show cancelled 1, flexible as given, monitored 0
abbrev pub plan_rest : List ℕ → List ℕ
plan_rest p =
    part pass_destination_at text_wide p
    ++ replicate (stamp_wide + 1) 0
    ++ part pass_times_at times_wide p
    ++ 1 ∷ get_or p pass_flexible_at 0 ∷ 0 ∷ []

unfoldable pub plan_body : List ℕ → List ℕ → List ℕ
plan_body p v = plan_key p v ++ plan_rest p
