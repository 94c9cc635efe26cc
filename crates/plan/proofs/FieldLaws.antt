-- The fields of updates and of plan passages are the cells of the columns of their names. Assumes nothing.
use Prim.Native.Nat.{ℕ, zero, suc, ◌-◌, ◌≤◌, ◌<◌}
use native.Mathlib.Omega.{arith}
use mathlib.Core.Path.{◌≡◌, refl, ap, subst, ◌∙◌}
use mathlib.Core.Bool.{true}
use mathlib.Core.List.{List, [], ◌∷◌}
use lib.ListN.{get_or, replicate}
use Rattle.lists.specs.Text.{same}
use Rattle.lists.specs.Part.{part}
use Rattle.lists.specs.BigEndian.{number}
use Rattle.lists.proofs.LogicLaws.{and-pass}
use Rattle.lists.proofs.TextLaws.{same_refl, same-equal}
use Rattle.turbo_labels.specs.Columns.{column_of}
use Rattle.columns.specs.declared.Form.TheVariants.{Old, New}
use Rattle.columns.specs.Cell.{width}
use Rattle.columns.specs.Tables.{columns_in, message_columns, planning_columns, calendar_columns, names, row_width}
use Rattle.columns.specs.Layout.{column_at, kind_at, widths, total, offset}
use Rattle.passage.specs.Layout.{text_wide, journey_wide, order_wide, time_wide, line_at, journey_at, fortify_at, stop_at, order_at, stamp_at, status_at, arrival_at, departure_at, stop_type_at, show_cancelled_at, flexible_at, monitored_at, owner_of}
use Rattle.passage.specs.Facts.{TimeFacts}
use Rattle.reader.specs.Passes.{pass_fortify_at, pass_arrival_at, pass_departure_at, pass_stop_type_at, pass_flexible_at}
use Rattle.plan.specs.Passes.{pass_trip_at, trip_wide, pass_times_at, times_wide, pass_level, validity_level, plan_body}
use Rattle.plan.specs.Rules.{matches}
use Rattle.plan.specs.Claims.{UpdateIsRow, PassByName, ValidityByName, MatchExactly, PlanFields}
use Rattle.plan.proofs.RangeLaws.{unheard-wide, flags-wide, piece, of-pass, byte_of, byte-of-pass, no-stamp}

-- a byte is the number of a part of one byte
byte-number : (at : ℕ) (l : List ℕ) → get_or l at 0 ≡ number (part at 1 l)
unfolding number part
byte-number zero [] = refl
byte-number (suc at) [] = refl
byte-number zero (x ∷ l) = omega arith
byte-number (suc at) (x ∷ l) = byte-number at l

pub update-is-row : UpdateIsRow
unfolding column_of same names row_width columns_in message_columns width column_at kind_at widths total offset
update-is-row Old = (
  refl,
  λ b. (
    refl,
    refl,
    refl,
    refl,
    byte-number fortify_at b,
    refl,
    refl,
    refl,
    refl,
    byte-number status_at b,
    refl,
    refl,
    byte-number stop_type_at b,
    byte-number show_cancelled_at b,
    byte-number flexible_at b,
    byte-number monitored_at b,
  ),
)
update-is-row New = (
  refl,
  λ b. (
    refl,
    refl,
    refl,
    refl,
    byte-number fortify_at b,
    refl,
    refl,
    refl,
    refl,
    byte-number status_at b,
    refl,
    refl,
    byte-number stop_type_at b,
    byte-number show_cancelled_at b,
    byte-number flexible_at b,
    byte-number monitored_at b,
  ),
)

pub pass-by-name : PassByName
unfolding column_of same names columns_in planning_columns width column_at kind_at widths total offset
pass-by-name p f = (
  f.owner,
  f.line,
  f.journey,
  subst (λ (n : ℕ). n < 100) (byte-number pass_fortify_at p) f.fortify,
  f.stop,
  f.order,
  f.level,
  f.destination,
  subst (λ (n : ℕ). TimeFacts 0 n (number (part pass_arrival_at time_wide p))) (byte-number pass_stop_type_at p) f.arrival,
  subst (λ (n : ℕ). TimeFacts 2 n (number (part pass_departure_at time_wide p))) (byte-number pass_stop_type_at p) f.departure,
  subst (λ (n : ℕ). n ≤ 2) (byte-number pass_stop_type_at p) f.stop-type,
  subst (λ (n : ℕ). n ≤ 3) (byte-number pass_flexible_at p) f.flexible,
)

pub validity-by-name : ValidityByName
unfolding column_of same names columns_in calendar_columns width column_at kind_at widths total offset
validity-by-name v f = (f.owner, f.level, f.date)

pub match-exactly : MatchExactly
unfolding matches column_of same names columns_in planning_columns calendar_columns width column_at kind_at widths total offset
match-exactly p v = (to, λ e. rw (e.0, e.1, same_refl (owner_of v), same_refl (validity_level v)))
  where
    to : matches p v ≡ true → (owner_of p ≡ owner_of v) × (pass_level p ≡ validity_level v)
    to e =
        let b = and-pass (same (owner_of p) (owner_of v)) (same (pass_level p) (validity_level v)) e in
        (same-equal (owner_of p) (owner_of v) b.0, same-equal (pass_level p) (validity_level v) b.1)

pub plan-fields : PlanFields
unfolding column_of same names row_width columns_in planning_columns calendar_columns width column_at kind_at widths total offset
plan-fields p v h k =
    let piece_of = piece p v h k in
    let key : part line_at trip_wide (plan_body p v) ≡ part pass_trip_at trip_wide p = piece_of 2 (omega arith) in
    let times : part arrival_at times_wide (plan_body p v) ≡ part pass_times_at times_wide p = piece_of 5 (omega arith) in
    let parted = of-pass p v h k in
    let byte-in = byte-of-pass p v h k in
    let unheard = piece_of 4 (omega arith) in
    let flags = byte_of p v h k show_cancelled_at flags-wide (1 ∷ get_or p pass_flexible_at 0 ∷ 0 ∷ []) (piece_of 6 (omega arith)) in (
      piece_of 0 (omega arith),
      ap number (piece_of 1 (omega arith)),
      parted line_at pass_trip_at trip_wide key 0 text_wide (omega arith),
      ap number (parted line_at pass_trip_at trip_wide key (journey_at - line_at) journey_wide (omega arith)),
      byte-in line_at pass_trip_at trip_wide key (fortify_at - line_at) (omega arith) ∙ byte-number pass_fortify_at p,
      parted line_at pass_trip_at trip_wide key (stop_at - line_at) text_wide (omega arith),
      ap number (parted line_at pass_trip_at trip_wide key (order_at - line_at) order_wide (omega arith)),
      piece_of 3 (omega arith),
      no-stamp p v h k unheard,
      byte_of p v h k stamp_at unheard-wide (replicate unheard-wide 0) unheard (status_at - stamp_at) (omega arith),
      ap number (parted arrival_at pass_times_at times_wide times 0 time_wide (omega arith)),
      ap number (parted arrival_at pass_times_at times_wide times (departure_at - arrival_at) time_wide (omega arith)),
      byte-in arrival_at pass_times_at times_wide times (stop_type_at - arrival_at) (omega arith) ∙ byte-number pass_stop_type_at p,
      flags 0 (omega arith),
      flags 1 (omega arith) ∙ byte-number pass_flexible_at p,
      flags 2 (omega arith),
    )
