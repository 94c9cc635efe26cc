use Prim.Native.Nat.{ℕ, ◌≤◌, ◌<◌}
use native.Mathlib.Omega.{arith}
use mathlib.Core.Path.{◌≡◌, sym, subst}
use mathlib.Core.Bool.{true}
use mathlib.Core.List.{List}
use mathlib.Core.Logic.{◌⊎◌, inl, inr, ⊎_elim}
use Rattle.lists.specs.Text.{bytes, same}
use Rattle.lists.specs.Each.{Each}
use Rattle.clock.specs.Date.{is_date}
use Rattle.field_types.specs.Stamps.{in_stamp_range}
use Rattle.columns.specs.declared.Form.{Form}
use Rattle.columns.specs.declared.Form.TheVariants.{Old, New}
use Rattle.columns.specs.declared.Table.TheVariants.{Message}
use Rattle.columns.specs.declared.Kind.TheVariants as Kinds
use Rattle.columns.specs.Cell.{width}
use Rattle.turbo_labels.specs.Columns.{column_of}
use Rattle.columns.specs.Tables.{columns_in, message_columns, names, row_of, row_width, wrong_column}
use Rattle.columns.specs.Layout.{column_at, kind_at, widths, total, offset}
use Rattle.columns.proofs.FormLaws.{message-wide}
use Rattle.columns.proofs.RangeLaws.{dates-in-range, numbers-in-range, stamps-in-range, words-in-range, times-in-range, stop-types-coded}
use Rattle.passage.specs.Layout.{date_wide, journey_wide, order_wide, stamp_wide, owner_at, date_offset, line_at, journey_at, fortify_at, stop_at, order_at, destination_at, stamp_at, status_at, arrival_at, departure_at, stop_type_at, show_cancelled_at, flexible_at, monitored_at, kept, show_cancelled_of, flexible_of, monitored_of}
use Rattle.passage.specs.Ranges.{update_in_range}
use Rattle.passage.specs.Facts.{UpdateFacts}
use Rattle.passage.proofs.RangeLaws.{facts-update}
use Rattle.reader.specs.Items.{Item}
use Rattle.reader.specs.Staging.{rows_up_to}
use Rattle.reader.proofs.HeldLaws.{Right, named, text_in, spelled-in, byte-in, optional-in, time-in}
use Rattle.reader.proofs.EachRowLaws.{rows-each}

-- The rows of a message are updates in range: each column's cell is, and a body is its cells. Assumes nothing.

-- what one byte of a message's row spells stands within the row, whatever the form
within-row : (f : Form) {n : ℕ} → n < 66 → n < row_width (Message f)
within-row f {n} h = subst (λ (w : ℕ). n < w) (sym (message-wide f)) h

-- the three columns behind the stop type, in which the forms differ
abbrev Flags : List ℕ → Type 0
Flags b =
    ((show_cancelled_of b ≤ 2) ⊎ (show_cancelled_of b ≡ kept))
    × (((1 ≤ flexible_of b) × (flexible_of b ≤ 3)) ⊎ (flexible_of b ≡ kept))
    × ((monitored_of b ≤ 1) ⊎ (monitored_of b ≡ kept))

flags : (f : Form) {ls : List (List ℕ)} {l : List ℕ} → Right (Message f) ls l → Flags (row_of (Message f) ls l)
unfolding offset total widths row_width columns_in message_columns width kind_at column_at names column_of same
flags Old right = (
  ⊎_elim (λ p. inl (omega (arith, p))) (λ p. inr p)
      (optional-in right show_cancelled_at Kinds.Bit kept "ShowCancelledTrip" (λ (n : ℕ). n ≤ 1) (omega arith) (named right "ShowCancelledTrip" (omega arith)) (words-in-range.2 _ _)),
  optional-in right flexible_at Kinds.Flexible kept "ShowFlexibleTrip" (λ (n : ℕ). (1 ≤ n) × (n ≤ 3)) (omega arith) (named right "ShowFlexibleTrip" (omega arith)) (words-in-range.3 _ _),
  optional-in right monitored_at Kinds.Bit kept "Monitored" (λ (n : ℕ). n ≤ 1) (omega arith) (named right "Monitored" (omega arith)) (words-in-range.2 _ _),
)
flags New right = (
  optional-in right show_cancelled_at Kinds.Shown kept "ShowCancelledJourney" (λ (n : ℕ). n ≤ 2) (omega arith) (named right "ShowCancelledJourney" (omega arith)) (words-in-range.5 _ _),
  optional-in right flexible_at Kinds.Flexible kept "ShowFlexibleTrip" (λ (n : ℕ). (1 ≤ n) × (n ≤ 3)) (omega arith) (named right "ShowFlexibleTrip" (omega arith)) (words-in-range.3 _ _),
  optional-in right monitored_at Kinds.Truth kept "Monitored" (λ (n : ℕ). n ≤ 1) (omega arith) (named right "Monitored" (omega arith)) (words-in-range.4 _ _),
)

module _ (f : Form) (ls : List (List ℕ)) (l : List ℕ) (e : wrong_column (Message f) ls l ≡ 0) where
  right : Right (Message f) ls l
  right = record { none = e }

  update-facts : UpdateFacts (row_of (Message f) ls l)
  unfolding offset total widths row_width columns_in message_columns width kind_at column_at names column_of same
  update-facts =
      let type = named right "JourneyStopType" (omega arith) in
      record {
        common =
            record {
              key =
                  record {
                    owner = text_in right owner_at "DataOwnerCode" (named right "DataOwnerCode" (omega arith));
                    date = spelled-in right date_offset date_wide Kinds.Date "OperationDate" (named right "OperationDate" (omega arith)) (λ (n : ℕ). is_date n ≡ true) (dates-in-range _ _);
                    line = text_in right line_at "LinePlanningNumber" (named right "LinePlanningNumber" (omega arith));
                    journey = spelled-in right journey_at journey_wide Kinds.Journey "VehicleJourneyNumber" (named right "VehicleJourneyNumber" (omega arith)) (λ (n : ℕ). n < 1000000) (numbers-in-range.0 _ _);
                    fortify = byte-in right fortify_at Kinds.Fortify "FortifyOrderNumber" (λ (n : ℕ). n < 100) (within-row f (omega arith)) (named right "FortifyOrderNumber" (omega arith)) (numbers-in-range.1 _ _);
                    stop = text_in right stop_at "UserStopCode" (named right "UserStopCode" (omega arith));
                    order = spelled-in right order_at order_wide Kinds.Order "UserStopOrderNumber" (named right "UserStopOrderNumber" (omega arith)) (λ (n : ℕ). n < 1000) (numbers-in-range.2 _ _);
                  };
              destination = text_in right destination_at "DestinationCode" (named right "DestinationCode" (omega arith));
              stop-type = byte-in right stop_type_at Kinds.StopType "JourneyStopType" (λ (n : ℕ). n ≤ 2) (within-row f (omega arith)) type (words-in-range.1 _ _);
              arrival =
                  time-in right stop_type_at (within-row f (omega arith)) type (bytes "FIRST") 0 arrival_at Kinds.Arrival "ExpectedArrivalTime" (stop-types-coded _).0 (times-in-range _ _).0
                  (named right "ExpectedArrivalTime" (omega arith));
              departure =
                  time-in right stop_type_at (within-row f (omega arith)) type (bytes "LAST") 2 departure_at Kinds.Departure "ExpectedDepartureTime" (stop-types-coded _).2 (times-in-range _ _).1
                  (named right "ExpectedDepartureTime" (omega arith));
            };
        stamp = spelled-in right stamp_at stamp_wide Kinds.Stamp "LastUpdateTimeStamp" (named right "LastUpdateTimeStamp" (omega arith)) (λ (n : ℕ). in_stamp_range n ≡ true) (stamps-in-range _ _);
        status = byte-in right status_at Kinds.Status "TripStopStatus" (λ (n : ℕ). n ≤ 5) (within-row f (omega arith)) (named right "TripStopStatus" (omega arith)) (words-in-range.0 _ _);
        show-cancelled = (flags f right).0;
        flexible = (flags f right).1;
        monitored = (flags f right).2;
      }

  row-in-range : update_in_range (row_of (Message f) ls l) ≡ true
  row-in-range = facts-update (row_of (Message f) ls l) update-facts

-- every row that is staged
pub rows-in-range : (f : Form) (register : List ℕ) (sender : ℕ) (xs : List Item) → Each (λ (r : List ℕ). update_in_range r ≡ true) (rows_up_to (Message f) register sender xs)
rows-in-range f = rows-each (Message f) (λ (r : List ℕ). update_in_range r ≡ true) (row-in-range f)
