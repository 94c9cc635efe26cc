-- What it means that a key, an update, a plan entry or a row is in range, fact by fact. Assumes nothing.
use Rattle.std.specs.Prelude.{◌≡◌, true, List, ◌⊎◌, ℕ, ◌≤◌, ◌<◌}
use Rattle.clock.specs.Date.{is_date}
use Rattle.field_types.specs.Stamps.{in_stamp_range}
use Rattle.passage.specs.Layout.{missing, kept, owner_of, date_of, line_of, journey_of, fortify_of, stop_of, order_of, destination_of, stamp_of, status_of, arrival_of, departure_of, stop_type_of, show_cancelled_of, flexible_of, monitored_of, heard_of}
use Rattle.passage.specs.Ranges.{padded_text}

-- of a key, or of the body or row that begins with it
pub record KeyFacts (b : List ℕ) : Type 0 where
  pub owner : padded_text (owner_of b) ≡ true
  pub date : is_date (date_of b) ≡ true
  pub line : padded_text (line_of b) ≡ true
  pub journey : journey_of b < 1000000
  pub fortify : fortify_of b < 100
  pub stop : padded_text (stop_of b) ≡ true
  pub order : order_of b < 1000

-- a time of the operating day, or a missing one at the stop type that may miss it
abbrev pub TimeFacts : ℕ → ℕ → ℕ → Type 0
TimeFacts misses stop_type t = (t < 115200) ⊎ ((stop_type ≡ misses) × (t ≡ missing))

-- of each update, plan entry and row
pub record CommonFacts (b : List ℕ) : Type 0 where
  pub key : KeyFacts b
  pub destination : padded_text (destination_of b) ≡ true
  pub stop-type : stop_type_of b ≤ 2
  pub arrival : TimeFacts 0 (stop_type_of b) (arrival_of b)
  pub departure : TimeFacts 2 (stop_type_of b) (departure_of b)

-- of an update: 255 in an optional says that the held content stays
pub record UpdateFacts (b : List ℕ) : Type 0 where
  pub common : CommonFacts b
  pub stamp : in_stamp_range (stamp_of b) ≡ true
  pub status : status_of b ≤ 5
  pub show-cancelled : (show_cancelled_of b ≤ 2) ⊎ (show_cancelled_of b ≡ kept)
  pub flexible : ((1 ≤ flexible_of b) × (flexible_of b ≤ 3)) ⊎ (flexible_of b ≡ kept)
  pub monitored : (monitored_of b ≤ 1) ⊎ (monitored_of b ≡ kept)

-- of a plan entry: what open writes
pub record PlanFacts (b : List ℕ) : Type 0 where
  pub common : CommonFacts b
  pub stamp : stamp_of b ≡ 0
  pub status : status_of b ≡ 0
  pub show-cancelled : show_cancelled_of b ≡ 1
  pub flexible : flexible_of b ≤ 3
  pub monitored : monitored_of b ≡ 0

-- of a row of the table
pub record RowFacts (r : List ℕ) : Type 0 where
  pub common : CommonFacts r
  pub heard : ((heard_of r ≡ 0) × (stamp_of r ≡ 0)) ⊎ ((heard_of r ≡ 1) × (in_stamp_range (stamp_of r) ≡ true))
  pub status : status_of r ≤ 5
  pub show-cancelled : show_cancelled_of r ≤ 2
  pub flexible : flexible_of r ≤ 3
  pub monitored : monitored_of r ≤ 1
