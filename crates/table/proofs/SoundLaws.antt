-- Soundness of a table: what its loops pass, and what follows from it. Assumes nothing.
use mathlib.Core.Path.{◌≡◌, refl, sym, ◌∙◌}
use mathlib.Core.Bool.{Bool, true, false, ◌&&◌}
use mathlib.Core.List.{List, [], ◌∷◌, map}
use Prim.Native.Nat.{ℕ, ◌+◌, ◌*◌, ◌-◌, ◌/◌, ◌≤◌, ◌<◌, min}
use native.Mathlib.Nat.{mul-le-mul_right, le_trans}
use native.Mathlib.Omega.{arith}
use borrow.Author.Tests.{le-leb, lt-leb, leb-true, leb-false}
use lib.Dec.{leb}
use lib.ListN.{length, drop}
use Rattle.lists.specs.Logic.{on}
use Rattle.lists.specs.Each.{Each}
use Rattle.lists.specs.Part.{part}
use Rattle.lists.specs.Rows.{rows_of, Wide, store}
use Rattle.lists.proofs.LogicLaws.{and-pass, and_assoc, not-then}
use Rattle.lists.proofs.PartLaws.{part-part}
use Rattle.lists.proofs.RowLaws.{rows_of-step, rows_of-start}
use Rattle.lists.proofs.StoreLaws.{rows_of-store, length-store}
use Rattle.passage.specs.Layout.{key_wide, row_wide, body_of}
use Rattle.passage.specs.Ranges.{common_in_range, row_in_range}
use Rattle.passage.proofs.FieldLaws.{common-of}
use Rattle.passage.proofs.RangeLaws.{row-facts, facts-common}
use Rattle.keys.specs.Sorted.{sorted_rows, put, remove}
use Rattle.keys.proofs.CountLaws.{each-put, each-remove}
use Rattle.keys.proofs.RiseLaws.{sorted-keys}
use Rattle.table.specs.Rules.{most_rows, table_room, rows, all_in_range, table_sound}
use Rattle.passage.specs.inner.Roles.{all_common}

-- ---- room

module _ (t : List ℕ) where
  pub room-min : min (length t / row_wide) most_rows ≡ table_room t
  unfolding table_room
  room-min = go (leb (length t / row_wide) most_rows) refl
    where
      go : (b : Bool) → leb (length t / row_wide) most_rows ≡ b → min (length t / row_wide) most_rows ≡ on b (length t / row_wide) most_rows
      go true e = let h = leb-true (length t / row_wide) most_rows e in omega arith
      go false e = let h = leb-false (length t / row_wide) most_rows e in omega arith

  room-both : (table_room t ≤ most_rows) × (table_room t * row_wide ≤ length t)
  unfolding table_room
  room-both = go (leb (length t / row_wide) most_rows) refl
    where
      go : (b : Bool) → leb (length t / row_wide) most_rows ≡ b
          → (on b (length t / row_wide) most_rows ≤ most_rows) × (on b (length t / row_wide) most_rows * row_wide ≤ length t)
      go true e = (leb-true (length t / row_wide) most_rows e, omega arith)
      go false e = let h = leb-false (length t / row_wide) most_rows e in (omega arith, omega arith)

  pub room_most : table_room t ≤ most_rows
  room_most = room-both.0

  pub room_fits : table_room t * row_wide ≤ length t
  room_fits = room-both.1

-- and no fewer than that
pub room-least : (n : ℕ) (t : List ℕ) → n ≤ most_rows → n * row_wide ≤ length t → n ≤ table_room t
unfolding table_room
room-least n t a b = go (leb (length t / row_wide) most_rows)
  where
    go : (c : Bool) → n ≤ on c (length t / row_wide) most_rows
    go true = omega arith
    go false = a

-- the room follows from the length
pub room-same : (t u : List ℕ) → length t ≡ length u → table_room t ≡ table_room u
unfolding table_room
room-same t u e = rw e

-- ---- the loops: what is left from row i on

module _ (n : ℕ) (t : List ℕ) where
  abbrev pub rest : ℕ → List (List ℕ)
  rest i = rows_of row_wide (n - i) (drop (i * row_wide) t)

  pub rest-start : rows n t ≡ rest 0
  rest-start = rows_of-start row_wide n t

  pub range-step : (i : ℕ) → i < n → all_in_range (rest i) ≡ (row_in_range (part (i * row_wide) row_wide t) && all_in_range (rest (i + 1)))
  unfolding all_in_range
  range-step i h = rw (rows_of-step row_wide n i t h)

  pub range-end : (i : ℕ) → n ≤ i → all_in_range (rest i) ≡ true
  unfolding all_in_range rows_of
  range-end i h = let e : n - i ≡ 0 = omega arith in rw e

-- ---- each row is in its range

abbrev pub InRange : List (List ℕ) → Type 0
InRange rs = Each (λ (r : List ℕ). row_in_range r ≡ true) rs

pub range-each : (rs : List (List ℕ)) → all_in_range rs ≡ true → InRange rs
unfolding all_in_range
range-each [] e = tt
range-each (r ∷ rs) e = let b = and-pass (row_in_range r) (all_in_range rs) e in (b.0, range-each rs b.1)

pub each-range : (rs : List (List ℕ)) → InRange rs → all_in_range rs ≡ true
unfolding all_in_range
each-range [] h = refl
each-range (r ∷ rs) h = rw h.0 (each-range rs h.1)

-- what is in its range has what is common in range
row_common : (r : List ℕ) → row_in_range r ≡ true → common_in_range (body_of r) ≡ true
row_common r e = common-of r ∙ facts-common r (row-facts r e).common

range-common : (rs : List (List ℕ)) → all_in_range rs ≡ true → all_common (map body_of rs) ≡ true
unfolding all_in_range all_common
range-common [] e = refl
range-common (r ∷ rs) e = let b = and-pass (row_in_range r) (all_in_range rs) e in rw (row_common r b.0) (range-common rs b.1)

pub range_none : (rs : List (List ℕ)) → all_common (map body_of rs) ≡ false → all_in_range rs ≡ false
range_none rs e = not-then (all_in_range rs) (all_common (map body_of rs)) (range-common rs) e

-- whole rows rise as their keys do
pub rows-rise : (rs : List (List ℕ)) → sorted_rows (map (part 0 row_wide) rs) ≡ sorted_rows rs
rows-rise rs = sorted-keys (part 0 row_wide) (λ r. part-part 0 key_wide 0 row_wide r (omega arith)) rs

pub range-put : (r : List ℕ) (rs : List (List ℕ)) → row_in_range r ≡ true → all_in_range rs ≡ true → all_in_range (put r rs) ≡ true
range-put r rs p h = each-range (put r rs) (each-put (λ (x : List ℕ). row_in_range x ≡ true) r rs p (range-each rs h))

pub range-remove : (k : List ℕ) (rs : List (List ℕ)) → all_in_range rs ≡ true → all_in_range (remove k rs) ≡ true
range-remove k rs h = each-range (remove k rs) (each-remove (λ (x : List ℕ). row_in_range x ≡ true) k rs (range-each rs h))

-- ---- what soundness is

module _ (n : ℕ) (t : List ℕ) where
  -- where there is no room
  pub sound-over : table_room t < n → false ≡ table_sound n t
  unfolding table_sound
  sound-over h = rw (lt-leb n (table_room t) h)

  -- where there is
  pub sound-room : n ≤ table_room t → (all_in_range (rows n t) && sorted_rows (rows n t)) ≡ table_sound n t
  unfolding table_sound
  sound-room h = rw (le-leb n (table_room t) h)

  pub room-holds : n ≤ table_room t → n * row_wide ≤ length t
  room-holds h = le_trans (mul-le-mul_right row_wide h) (room_fits t)

  pub sound-is : n ≤ table_room t → all_in_range (rows n t) ≡ true → sorted_rows (rows n t) ≡ true → table_sound n t ≡ true
  sound-is h r s = sym (sound-room h) ∙ rw (r, s)

  module _ (e : table_sound n t ≡ true) where
    parts : (leb n (table_room t) ≡ true) × ((all_in_range (rows n t) && sorted_rows (rows n t)) ≡ true)
    unfolding table_sound
    parts = and-pass (leb n (table_room t)) (all_in_range (rows n t) && sorted_rows (rows n t)) (sym (and_assoc (leb n (table_room t)) _ _) ∙ e)

    pub sound-within : n ≤ table_room t
    sound-within = leb-true n (table_room t) parts.0

    pub sound-most : n ≤ most_rows
    sound-most = le_trans sound-within (room_most t)

    pub sound-fits : n * row_wide ≤ length t
    sound-fits = room-holds sound-within

    pub sound-range : all_in_range (rows n t) ≡ true
    sound-range = (and-pass (all_in_range (rows n t)) (sorted_rows (rows n t)) parts.1).0

    pub sound-sorted : sorted_rows (rows n t) ≡ true
    sound-sorted = (and-pass (all_in_range (rows n t)) (sorted_rows (rows n t)) parts.1).1

-- rows that are in their range, rise and have room are sound where they are stored
pub sound-stored : (n : ℕ) (rs : List (List ℕ)) (t : List ℕ) → Wide row_wide rs → length rs ≤ table_room t → all_in_range rs ≡ true → sorted_rows rs ≡ true
    → table_sound (length rs) (store row_wide n rs t) ≡ true
sound-stored n rs t w h r s =
    let back : rows (length rs) (store row_wide n rs t) ≡ rs = rows_of-store row_wide n rs t w (room-holds (length rs) t h) in
    let same : table_room (store row_wide n rs t) ≡ table_room t = room-same (store row_wide n rs t) t (length-store row_wide n rs t) in
    sound-is (length rs) (store row_wide n rs t) (rw same h) (rw back r) (rw back s)
