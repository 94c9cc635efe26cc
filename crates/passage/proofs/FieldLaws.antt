-- The ranges of a key, of what all bodies have in common, of an update, a plan entry and a row that stand from `at` on in a longer list, field by field. Assumes nothing.
use mathlib.Core.Path.{◌≡◌, refl, ◌∙◌, sym}
use mathlib.Core.Bool.{Bool, ◌&&◌, ◌||◌}
use mathlib.Core.List.{List, [], ◌∷◌}
use Prim.Native.Nat.{ℕ, ◌+◌, ◌≤◌}
use native.Mathlib.Nat.{add-zero}
use native.Mathlib.Omega.{arith}
use lib.Dec.{ltb, eqb, leb}
use lib.ListN.{get_or, take}
use Rattle.lists.specs.Part.{part}
use Rattle.lists.specs.BigEndian.{number}
use Rattle.lists.specs.Logic.{within}
use Rattle.lists.proofs.PartLaws.{part-part, part_at}
use Rattle.clock.specs.Date.{is_date}
use Rattle.field_types.specs.Stamps.{in_stamp_range}
use Rattle.passage.specs.Layout.{text_wide, date_wide, journey_wide, order_wide, time_wide, owner_at, date_offset, line_at, journey_at, fortify_at, stop_at, order_at, key_wide, destination_at, arrival_at, departure_at, stop_type_at, body_wide, key_of, owner_of, date_of, line_of, journey_of, fortify_of, stop_of, order_of, destination_of, arrival_of, departure_of, stop_type_of, body_of, stamp_wide, stamp_at, status_at, show_cancelled_at, flexible_at, monitored_at, heard_at, row_wide, kept}
use Rattle.passage.specs.Ranges.{padded_text, key_in_range, times_in_range, common_in_range, is_bit, is_shown, update_in_range, plan_in_range, heard_in_range, row_in_range}
use Rattle.passage.specs.inner.Roles.{texts_padded}
use Rattle.lists.proofs.LogicLaws.{all_pass, tests-equal}

-- of n bytes from `at` on, the first key_wide are the key and the first body_wide the body, whatever stands behind them
module _ (at n : ℕ) (s : List ℕ) where
  pub key-at : key_wide ≤ n → key_in_range (part at n s) ≡
      (padded_text (part (at + owner_at) text_wide s)
      && is_date (number (part (at + date_offset) date_wide s))
      && padded_text (part (at + line_at) text_wide s)
      && ltb (number (part (at + journey_at) journey_wide s)) 1000000
      && ltb (get_or s (at + fortify_at) 0) 100
      && padded_text (part (at + stop_at) text_wide s)
      && ltb (number (part (at + order_at) order_wide s)) 1000)
  unfolding key_in_range
  key-at h =
      rw (
        part-part owner_at text_wide at n s (omega arith),
        part-part date_offset date_wide at n s (omega arith),
        part-part line_at text_wide at n s (omega arith),
        part-part journey_at journey_wide at n s (omega arith),
        part_at at n s fortify_at (omega arith),
        part-part stop_at text_wide at n s (omega arith),
        part-part order_at order_wide at n s (omega arith),
      )

  pub common-at : body_wide ≤ n → common_in_range (part at n s) ≡
      (key_in_range (part at key_wide s)
      && padded_text (part (at + destination_at) text_wide s)
      && times_in_range (get_or s (at + stop_type_at) 0) (number (part (at + arrival_at) time_wide s)) (number (part (at + departure_at) time_wide s)))
  unfolding common_in_range
  common-at h =
      rw (
        part-part 0 key_wide at n s (omega arith),
        add-zero,
        part-part destination_at text_wide at n s (omega arith),
        part_at at n s stop_type_at (omega arith),
        part-part arrival_at time_wide at n s (omega arith),
        part-part departure_at time_wide at n s (omega arith),
      )

-- the ranges look at the key alone, and at the body alone
pub key-of : (b : List ℕ) → key_in_range (key_of b) ≡ key_in_range b
unfolding key_in_range
key-of b = key-at 0 key_wide b (omega arith)

pub common-of : (r : List ℕ) → common_in_range (body_of r) ≡ common_in_range r
unfolding common_in_range
common-of r = common-at 0 body_wide r (omega arith)

-- the texts first, as one loop tests them
texts-first :
    (owner date line journey fortify stop order destination times : Bool)
    → owner && date && line && journey && fortify && stop && order && destination && times
    ≡ owner && line && stop && destination && date && journey && fortify && order && times
texts-first owner date line journey fortify stop order destination times =
    tests-equal _ _
    (λ e. let p = all_pass owner (date ∷ line ∷ journey ∷ fortify ∷ stop ∷ order ∷ destination ∷ times ∷ []) e in rw (p 0, p 1, p 2, p 3, p 4, p 5, p 6, p 7, p 8))
    (λ e. let p = all_pass owner (line ∷ stop ∷ destination ∷ date ∷ journey ∷ fortify ∷ order ∷ times ∷ []) e in rw (p 0, p 1, p 2, p 3, p 4, p 5, p 6, p 7, p 8))

pub common-texts : (b : List ℕ) → common_in_range b ≡
    (texts_padded b
    && is_date (date_of b)
    && ltb (journey_of b) 1000000
    && ltb (fortify_of b) 100
    && ltb (order_of b) 1000
    && times_in_range (stop_type_of b) (arrival_of b) (departure_of b))
unfolding common_in_range key_in_range texts_padded
common-texts b =
    rw (key-of b)
    (texts-first
    (padded_text (owner_of b))
    (is_date (date_of b))
    (padded_text (line_of b))
    (ltb (journey_of b) 1000000)
    (ltb (fortify_of b) 100)
    (padded_text (stop_of b))
    (ltb (order_of b) 1000)
    (padded_text (destination_of b))
    (times_in_range (stop_type_of b) (arrival_of b) (departure_of b)))

module _ (at : ℕ) (s : List ℕ) where
  pub body_at : common_in_range (part at body_wide s) ≡
      (texts_padded (part at body_wide s)
      && is_date (number (part (at + date_offset) date_wide s))
      && ltb (number (part (at + journey_at) journey_wide s)) 1000000
      && ltb (get_or s (at + fortify_at) 0) 100
      && ltb (number (part (at + order_at) order_wide s)) 1000
      && times_in_range (get_or s (at + stop_type_at) 0) (number (part (at + arrival_at) time_wide s)) (number (part (at + departure_at) time_wide s)))
  body_at =
      rw (
        ← part-part date_offset date_wide at body_wide s (omega arith),
        ← part-part journey_at journey_wide at body_wide s (omega arith),
        ← part_at at body_wide s fortify_at (omega arith),
        ← part-part order_at order_wide at body_wide s (omega arith),
        ← part_at at body_wide s stop_type_at (omega arith),
        ← part-part arrival_at time_wide at body_wide s (omega arith),
        ← part-part departure_at time_wide at body_wide s (omega arith),
      )
      (common-texts (part at body_wide s))

pub key-take : (b : List ℕ) → key_of b ≡ take key_wide b
unfolding part
key-take b = refl

-- ---- update, plan entry, row

module _ (at : ℕ) (s : List ℕ) where
  pub update-at : update_in_range (part at body_wide s) ≡
      (common_in_range (part at body_wide s)
      && in_stamp_range (number (part (at + stamp_at) stamp_wide s))
      && leb (get_or s (at + status_at) 0) 5
      && (is_shown (get_or s (at + show_cancelled_at) 0) || eqb (get_or s (at + show_cancelled_at) 0) kept)
      && (within 1 3 (get_or s (at + flexible_at) 0) || eqb (get_or s (at + flexible_at) 0) kept)
      && (is_bit (get_or s (at + monitored_at) 0) || eqb (get_or s (at + monitored_at) 0) kept))
  unfolding update_in_range
  update-at =
      rw (
        part-part stamp_at stamp_wide at body_wide s (omega arith),
        part_at at body_wide s status_at (omega arith),
        part_at at body_wide s show_cancelled_at (omega arith),
        part_at at body_wide s flexible_at (omega arith),
        part_at at body_wide s monitored_at (omega arith),
      )

  pub plan-at : plan_in_range (part at body_wide s) ≡
      (common_in_range (part at body_wide s)
      && eqb (number (part (at + stamp_at) stamp_wide s)) 0
      && eqb (get_or s (at + status_at) 0) 0
      && eqb (get_or s (at + show_cancelled_at) 0) 1
      && leb (get_or s (at + flexible_at) 0) 3
      && eqb (get_or s (at + monitored_at) 0) 0)
  unfolding plan_in_range
  plan-at =
      rw (
        part-part stamp_at stamp_wide at body_wide s (omega arith),
        part_at at body_wide s status_at (omega arith),
        part_at at body_wide s show_cancelled_at (omega arith),
        part_at at body_wide s flexible_at (omega arith),
        part_at at body_wide s monitored_at (omega arith),
      )

  row_common : common_in_range (part at row_wide s) ≡ common_in_range (part at body_wide s)
  row_common = common-at at row_wide s (omega arith) ∙ sym (common-at at body_wide s (omega arith))

  pub row-at : row_in_range (part at row_wide s) ≡
      (common_in_range (part at body_wide s)
      && heard_in_range (get_or s (at + heard_at) 0) (number (part (at + stamp_at) stamp_wide s))
      && leb (get_or s (at + status_at) 0) 5
      && is_shown (get_or s (at + show_cancelled_at) 0)
      && leb (get_or s (at + flexible_at) 0) 3
      && is_bit (get_or s (at + monitored_at) 0))
  unfolding row_in_range
  row-at =
      rw (
        row_common,
        part_at at row_wide s heard_at (omega arith),
        part-part stamp_at stamp_wide at row_wide s (omega arith),
        part_at at row_wide s status_at (omega arith),
        part_at at row_wide s show_cancelled_at (omega arith),
        part_at at row_wide s flexible_at (omega arith),
        part_at at row_wide s monitored_at (omega arith),
      )
