-- What a staged row of a planning and of a calendar holds, fact by fact. Assumes nothing.
use Rattle.std.specs.Prelude.{ℕ, ◌≤◌, ◌<◌, ◌≡◌, true, List, length, get_or}
use Rattle.lists.specs.Part.{part}
use Rattle.lists.specs.BigEndian.{number}
use Rattle.clock.specs.Date.{is_date}
use Rattle.passage.specs.Layout.{text_wide, date_wide, journey_wide, order_wide, time_wide, owner_at}
use Rattle.passage.specs.Ranges.{padded_text}
use Rattle.passage.specs.Facts.{TimeFacts}
use Rattle.reader.specs.Passes.{pass_line_at, pass_journey_at, pass_fortify_at, pass_stop_at, pass_order_at, pass_level_at, pass_destination_at, pass_arrival_at, pass_departure_at, pass_stop_type_at, pass_flexible_at, pass_wide, validity_level_at, validity_date_at, validity_wide}

-- a pass time: owner, line, journey, fortify, stop, order number, service level, destination, arrival, departure, stop type, flexible
pub record PassFacts (p : List ℕ) : Type 0 where
  pub wide : length p ≡ pass_wide
  pub owner : padded_text (part owner_at text_wide p) ≡ true
  pub line : padded_text (part pass_line_at text_wide p) ≡ true
  pub journey : number (part pass_journey_at journey_wide p) < 1000000
  pub fortify : get_or p pass_fortify_at 0 < 100
  pub stop : padded_text (part pass_stop_at text_wide p) ≡ true
  pub order : number (part pass_order_at order_wide p) < 1000
  pub level : padded_text (part pass_level_at text_wide p) ≡ true
  pub destination : padded_text (part pass_destination_at text_wide p) ≡ true
  pub arrival : TimeFacts 0 (get_or p pass_stop_type_at 0) (number (part pass_arrival_at time_wide p))
  pub departure : TimeFacts 2 (get_or p pass_stop_type_at 0) (number (part pass_departure_at time_wide p))
  pub stop-type : get_or p pass_stop_type_at 0 ≤ 2
  pub flexible : get_or p pass_flexible_at 0 ≤ 3

-- a validity: owner, service level, date
pub record ValidityFacts (v : List ℕ) : Type 0 where
  pub wide : length v ≡ validity_wide
  pub owner : padded_text (part owner_at text_wide v) ≡ true
  pub level : padded_text (part validity_level_at text_wide v) ≡ true
  pub date : is_date (number (part validity_date_at date_wide v)) ≡ true
