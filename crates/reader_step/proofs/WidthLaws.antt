use Prim.Native.Nat.{ℕ, ◌+◌, ◌*◌, ◌≤◌, ◌<◌}
use native.Mathlib.Omega.{arith}
use native.Mathlib.Nat.{mul-le-mul_right, mul-le-mul_left, suc-mul}
use native.Mathlib.Numerals.{add-one}
use mathlib.Core.Path.{◌≡◌, sym, ap, ◌∙◌}
use mathlib.Core.Bool.{true, false}
use mathlib.Core.List.{List}
use lib.Dec.{leb}
use lib.ListN.{length, take}
use borrow.Author.Tests.{le-leb, lt-leb}
use Rattle.lists.specs.Part.{over}
use Rattle.columns.specs.declared.Table.{Table}
use Rattle.columns.specs.declared.Form.TheVariants.{Old, New}
use Rattle.columns.specs.declared.Table.TheVariants.{Message, Planning, Calendar}
use Rattle.columns.specs.Cell.{width}
use Rattle.columns.specs.Tables.{message_columns, planning_columns, calendar_columns, columns_in, row_width}
use Rattle.columns.specs.Layout.{widest_row}
use Rattle.reader_step.specs.Step.{staged}

-- How wide a row is, and where it goes. Assumes nothing.

pub width_some : (t : Table) → 0 < row_width t
unfolding row_width columns_in message_columns planning_columns calendar_columns width
width_some (Message Old) = omega arith
width_some (Message New) = omega arith
width_some Planning = omega arith
width_some Calendar = omega arith

pub width-most : (t : Table) → row_width t ≤ widest_row
unfolding row_width columns_in message_columns planning_columns calendar_columns width
width-most (Message Old) = omega arith
width-most (Message New) = omega arith
width-most Planning = omega arith
width-most Calendar = omega arith

-- every row begins with its owner, ten bytes
pub width-owner : (t : Table) → 10 ≤ row_width t
unfolding row_width columns_in message_columns planning_columns calendar_columns width
width-owner (Message Old) = omega arith
width-owner (Message New) = omega arith
width-owner Planning = omega arith
width-owner Calendar = omega arith

-- the place of row n and its end fit a word
pub place-fits : (n w : ℕ) → n < 4294967296 → w ≤ widest_row → n * w ≤ 4294967296 * widest_row
place-fits n w h k =
    let a : n * w ≤ 4294967296 * w = mul-le-mul_right w (omega arith) in
    let b : 4294967296 * w ≤ 4294967296 * widest_row = mul-le-mul_left 4294967296 k in
    omega arith

next_row : (n w : ℕ) → (n + 1) * w ≡ n * w + w
next_row n w = rw add-one (suc-mul n w)

-- a row that fits, and one that does not
module _ (t : Table) (n w : ℕ) (r st : List ℕ) (e : w ≡ row_width t) where
  room : (n + 1) * row_width t ≡ n * w + w
  room = ap (λ (k : ℕ). (n + 1) * k) (sym e) ∙ next_row n w

  pub stage-fits : n * w + w ≤ length st → over (n * w) (take w r) st ≡ staged t n r st
  unfolding staged
  stage-fits h =
      let k : leb ((n + 1) * row_width t) (length st) ≡ true = le-leb ((n + 1) * row_width t) (length st) (let z = room in omega arith) in
      rw k (ap (λ (v : ℕ). over (n * v) (take v r) st) e)

  pub stage-full : length st < n * w + w → st ≡ staged t n r st
  unfolding staged
  stage-full h =
      let k : leb ((n + 1) * row_width t) (length st) ≡ false = lt-leb ((n + 1) * row_width t) (length st) (let z = room in omega arith) in
      rw k
