-- How a staged pass time and a staged validity lie in bytes. Assumes nothing.
use Rattle.std.specs.Prelude.{ℕ, ◌+◌}
use Rattle.passage.specs.Layout.{text_wide, date_wide, journey_wide, order_wide, time_wide}

-- ---- a pass time: owner, line, journey, fortify, stop, order number, service level, destination, arrival, departure, stop type, flexible

abbrev pub pass_line_at : ℕ
pass_line_at = text_wide

abbrev pub pass_journey_at : ℕ
pass_journey_at = pass_line_at + text_wide

abbrev pub pass_fortify_at : ℕ
pass_fortify_at = pass_journey_at + journey_wide

abbrev pub pass_stop_at : ℕ
pass_stop_at = pass_fortify_at + 1

abbrev pub pass_order_at : ℕ
pass_order_at = pass_stop_at + text_wide

abbrev pub pass_level_at : ℕ
pass_level_at = pass_order_at + order_wide

abbrev pub pass_destination_at : ℕ
pass_destination_at = pass_level_at + text_wide

abbrev pub pass_arrival_at : ℕ
pass_arrival_at = pass_destination_at + text_wide

abbrev pub pass_departure_at : ℕ
pass_departure_at = pass_arrival_at + time_wide

abbrev pub pass_stop_type_at : ℕ
pass_stop_type_at = pass_departure_at + time_wide

abbrev pub pass_flexible_at : ℕ
pass_flexible_at = pass_stop_type_at + 1

abbrev pub pass_wide : ℕ
pass_wide = pass_flexible_at + 1

-- ---- a validity: owner, service level, date

abbrev pub validity_level_at : ℕ
validity_level_at = text_wide

abbrev pub validity_date_at : ℕ
validity_date_at = validity_level_at + text_wide

abbrev pub validity_wide : ℕ
validity_wide = validity_date_at + date_wide
