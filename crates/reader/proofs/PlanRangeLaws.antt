use Prim.Native.Nat.{ℕ, ◌≤◌, ◌<◌}
use native.Mathlib.Omega.{arith}
use mathlib.Core.Path.{◌≡◌}
use mathlib.Core.Bool.{true}
use mathlib.Core.List.{List}
use mathlib.Core.Logic.{⊎_elim}
use Rattle.lists.specs.Text.{bytes, same}
use Rattle.lists.specs.Each.{Each}
use Rattle.clock.specs.Date.{is_date}
use Rattle.passage.specs.Layout.{date_wide, journey_wide, order_wide, owner_at}
use Rattle.columns.specs.declared.Table.TheVariants.{Planning, Calendar}
use Rattle.columns.specs.declared.Kind.TheVariants as Kinds
use Rattle.columns.specs.Cell.{width}
use Rattle.turbo_labels.specs.Columns.{column_of}
use Rattle.columns.specs.Tables.{columns_in, planning_columns, calendar_columns, names, row_of, row_width, wrong_column}
use Rattle.columns.specs.Layout.{column_at, kind_at, widths, total, offset}
use Rattle.columns.proofs.RangeLaws.{dates-in-range, numbers-in-range, words-in-range, times-in-range, stop-types-coded}
use Rattle.rows.proofs.RowLaws.{row-length}
use Rattle.reader.specs.Items.{Item}
use Rattle.reader.specs.Staging.{rows_up_to}
use Rattle.reader.specs.Passes.{pass_line_at, pass_journey_at, pass_fortify_at, pass_stop_at, pass_order_at, pass_level_at, pass_destination_at, pass_arrival_at, pass_departure_at, pass_stop_type_at, pass_flexible_at, validity_level_at, validity_date_at}
use Rattle.reader.specs.Staged.{PassFacts, ValidityFacts}
use Rattle.reader.proofs.HeldLaws.{Right, named, text_in, spelled-in, byte-in, optional-in, time-in}
use Rattle.reader.proofs.EachRowLaws.{rows-each}

-- The rows of a planning are pass times in range, and those of a calendar validities. Assumes nothing.

pass-facts : (ls : List (List ℕ)) (l : List ℕ) → wrong_column Planning ls l ≡ 0 → PassFacts (row_of Planning ls l)
unfolding offset total widths row_width columns_in planning_columns width kind_at column_at names column_of same
pass-facts ls l e =
    let right : Right Planning ls l = record { none = e } in
    let type = named right "JourneyStopType" (omega arith) in
    record {
      wide = row-length Planning ls l e;
      owner = text_in right owner_at "DataOwnerCode" (named right "DataOwnerCode" (omega arith));
      line = text_in right pass_line_at "LinePlanningNumber" (named right "LinePlanningNumber" (omega arith));
      journey = spelled-in right pass_journey_at journey_wide Kinds.Journey "VehicleJourneyNumber" (named right "VehicleJourneyNumber" (omega arith)) (λ (n : ℕ). n < 1000000) (numbers-in-range.0 _ _);
      fortify = byte-in right pass_fortify_at Kinds.Fortify "FortifyOrderNumber" (λ (n : ℕ). n < 100) (omega arith) (named right "FortifyOrderNumber" (omega arith)) (numbers-in-range.1 _ _);
      stop = text_in right pass_stop_at "UserStopCode" (named right "UserStopCode" (omega arith));
      order = spelled-in right pass_order_at order_wide Kinds.Order "UserStopOrderNumber" (named right "UserStopOrderNumber" (omega arith)) (λ (n : ℕ). n < 1000) (numbers-in-range.2 _ _);
      level = text_in right pass_level_at "LocalServiceLevelCode" (named right "LocalServiceLevelCode" (omega arith));
      destination = text_in right pass_destination_at "DestinationCode" (named right "DestinationCode" (omega arith));
      arrival =
          time-in right pass_stop_type_at (omega arith) type (bytes "FIRST") 0 pass_arrival_at Kinds.Arrival "TargetArrivalTime" (stop-types-coded _).0 (times-in-range _ _).0 (named right "TargetArrivalTime" (omega arith));
      departure =
          time-in right pass_stop_type_at (omega arith) type (bytes "LAST") 2 pass_departure_at Kinds.Departure "TargetDepartureTime" (stop-types-coded _).2 (times-in-range _ _).1 (named right "TargetDepartureTime" (omega arith));
      stop-type = byte-in right pass_stop_type_at Kinds.StopType "JourneyStopType" (λ (n : ℕ). n ≤ 2) (omega arith) type (words-in-range.1 _ _);
      flexible =
          ⊎_elim (λ h. h.1) (λ h. omega arith)
          (optional-in right pass_flexible_at Kinds.Flexible 0 "ShowFlexibleTrip" (λ (n : ℕ). (1 ≤ n) × (n ≤ 3)) (omega arith) (named right "ShowFlexibleTrip" (omega arith)) (words-in-range.3 _ _));
    }

validity-facts : (ls : List (List ℕ)) (l : List ℕ) → wrong_column Calendar ls l ≡ 0 → ValidityFacts (row_of Calendar ls l)
unfolding offset total widths row_width columns_in calendar_columns width kind_at column_at names column_of same
validity-facts ls l e =
    let right : Right Calendar ls l = record { none = e } in
    record {
      wide = row-length Calendar ls l e;
      owner = text_in right owner_at "DataOwnerCode" (named right "DataOwnerCode" (omega arith));
      level = text_in right validity_level_at "LocalServiceLevelCode" (named right "LocalServiceLevelCode" (omega arith));
      date = spelled-in right validity_date_at date_wide Kinds.Date "OperationDate" (named right "OperationDate" (omega arith)) (λ (n : ℕ). is_date n ≡ true) (dates-in-range _ _);
    }

pub passes-in-range : (register : List ℕ) (sender : ℕ) (xs : List Item) → Each PassFacts (rows_up_to Planning register sender xs)
passes-in-range = rows-each Planning PassFacts pass-facts

pub validities-in-range : (register : List ℕ) (sender : ℕ) (xs : List Item) → Each ValidityFacts (rows_up_to Calendar register sender xs)
validities-in-range = rows-each Calendar ValidityFacts validity-facts
