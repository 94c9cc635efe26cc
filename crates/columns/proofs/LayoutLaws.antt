-- Laws of a row's layout, over any table. Assumes nothing.
use mathlib.Core.Path.{◌≡◌, refl, sym, ap, ◌∙◌}
use mathlib.Core.Bool.{Bool, true, false, ◌&&◌}
use mathlib.Core.List.{List, [], ◌∷◌, map}
use Prim.Native.Nat.{ℕ, zero, suc, ◌+◌, ◌-◌, ◌<◌, ◌≤◌}
use native.Mathlib.Nat.{le_of_suc-le-suc, not-suc-le-zero}
use native.Mathlib.Numerals.{add-one}
use native.Mathlib.Omega.{arith}
use borrow.Author.Tests.{eqb-true}
use lib.Dec.{eqb}
use lib.ListN.{length, take, drop, get_or, replicate, length-map, length-append, length-replicate, get_or-map}
use lib.Seq.{drop_at}
use Rattle.lists.specs.Logic.{on}
use Rattle.lists.specs.Part.{part}
use Rattle.lists.specs.Rows.{flat}
use Rattle.lists.proofs.LogicLaws.{and-pass}
use Rattle.columns.specs.declared.Table.{Table}
use Rattle.columns.specs.declared.Form.TheVariants.{Old, New}
use Rattle.columns.specs.declared.Table.TheVariants.{Message, Planning, Calendar}
use Rattle.columns.specs.declared.Kind.TheVariants as Kinds
use Rattle.columns.specs.Cell.{width}
use Rattle.columns.specs.Tables.{Column, must, message_columns, planning_columns, calendar_columns, columns_in, is_optional, width_of, row_width, names}
use Rattle.columns.specs.Layout.{wanted, column_at, kind_at, optional_at, width_in, widths, total, offset}
use Rattle.columns.specs.Layout.{widest_row}
use Rattle.columns.specs.inner.Blank.{blank_cell, blank_row}
use Rattle.columns.proofs.PartLaws.{begins, begins-next, begins-within, begins-apart, parts-flat, Fit, length-flat, flat-part}

-- ---- the rules as lists

-- 1 for a column that may be absent, else 0
abbrev pub flag_of : Column → ℕ
flag_of c = on (is_optional c) 1 0

pub flagged : (b : Bool) → eqb (on b 1 0) 1 ≡ b
flagged true = refl
flagged false = refl

pub optional-listed : (t : Table) (j : ℕ) → eqb (get_or (map flag_of (columns_in t)) j 0) 1 ≡ optional_at t j
unfolding optional_at column_at
optional-listed t j =
    ap (λ (n : ℕ). eqb n 1) (get_or-map flag_of (columns_in t) j (must "" Kinds.Text)) ∙ flagged (is_optional (get_or (columns_in t) j (must "" Kinds.Text)))

pub length-widths : (t : Table) → length (widths t) ≡ wanted t
unfolding widths
length-widths t = length-map (columns_in t) width_in

-- a place in a table that is told
pub told_below : {t u : Table} (j : ℕ) → t ≡ u → j < wanted t → j < wanted u
told_below j e h = rw e at h

-- ---- a test that antt computes over the columns, and what it says of one of them

abbrev every : (Column → Bool) → List Column → Bool
every f [] = true
every f (c ∷ cs) = f c && every f cs

every-at : (f : Column → Bool) (cs : List Column) (j : ℕ) (d : Column) → every f cs ≡ true → j < length cs → f (get_or cs j d) ≡ true
every-at f [] j d e h = absurd (not-suc-le-zero h)
every-at f (c ∷ cs) zero d e h = (and-pass (f c) (every f cs) e).0
every-at f (c ∷ cs) (suc j) d e h = every-at f cs j d (and-pass (f c) (every f cs) e).1 (le_of_suc-le-suc h)

abbrev fitting : Column → Bool
fitting c = eqb (length (blank_cell c)) (width_in c)

all-fitting : (t : Table) → every fitting (columns_in t) ≡ true
unfolding width columns_in message_columns planning_columns calendar_columns
all-fitting (Message Old) = refl
all-fitting (Message New) = refl
all-fitting Planning = refl
all-fitting Calendar = refl

blank-width : (t : Table) (j : ℕ) → j < wanted t → length (blank_cell (column_at t j)) ≡ width (kind_at t j)
unfolding kind_at column_at
blank-width t j h = eqb-true _ _ (every-at fitting (columns_in t) j (must "" Kinds.Text) (all-fitting t) h)

blank-absent : (c : Column) → is_optional c ≡ true → blank_cell c ≡ c.absent
blank-absent c e = rw e

-- what is kept of an absent column is as wide as its cells
pub absent-width : (t : Table) (j : ℕ) → j < wanted t → optional_at t j ≡ true → length (column_at t j).absent ≡ width (kind_at t j)
unfolding optional_at
absent-width t j h e = ap length (sym (blank-absent (column_at t j) e)) ∙ blank-width t j h

-- ---- how many columns there are

pub wanted-most : (t : Table) → wanted t ≤ 20
unfolding columns_in message_columns planning_columns calendar_columns
wanted-most (Message f) = omega arith
wanted-most Planning = omega arith
wanted-most Calendar = omega arith

pub names-wanted : (t : Table) → length (names t) ≡ wanted t
unfolding names
names-wanted t = length-map (columns_in t) _

-- ---- offsets

pub row_room : (t : Table) → row_width t ≤ widest_row
unfolding row_width width columns_in message_columns planning_columns calendar_columns
row_room (Message Old) = omega arith
row_room (Message New) = omega arith
row_room Planning = omega arith
row_room Calendar = omega arith

total-is : (cs : List Column) → total (map width_in cs) ≡ width_of cs
unfolding total
total-is [] = refl
total-is (c ∷ cs) = ap (λ (n : ℕ). width_in c + n) (total-is cs)

pub total-widths : (t : Table) → total (widths t) ≡ row_width t
unfolding widths row_width
total-widths t = total-is (columns_in t)

width-in : (cs : List Column) (j : ℕ) (d : Column) → j < length cs → get_or (map width_in cs) j 0 ≡ width_in (get_or cs j d)
width-in [] j d h = absurd (not-suc-le-zero h)
width-in (c ∷ cs) zero d h = refl
width-in (c ∷ cs) (suc j) d h = width-in cs j d (le_of_suc-le-suc h)

pub width-at : (t : Table) (j : ℕ) → j < wanted t → get_or (widths t) j 0 ≡ width (kind_at t j)
unfolding widths kind_at column_at
width-at t j h = width-in (columns_in t) j (must "" Kinds.Text) h

module _ (t : Table) (j : ℕ) (h : j < wanted t) where
  in-widths : j < length (widths t)
  in-widths = rw length-widths h

  pub offset-next : offset t (j + 1) ≡ offset t j + width (kind_at t j)
  unfolding offset
  offset-next = rw (add-one j, ← (width-at t j h)) (begins-next (widths t) j in-widths)

  pub offset-within : offset t j + width (kind_at t j) ≤ row_width t
  unfolding offset
  offset-within = rw (← (width-at t j h), ← (total-widths t)) (begins-within (widths t) j in-widths)

  -- a cell ends in front of each later one
  pub offset-apart : (k : ℕ) → j < k → k < wanted t → offset t j + width (kind_at t j) ≤ offset t k
  unfolding offset
  offset-apart k l m =
      let n : k < length (widths t) = rw length-widths m in
      rw (← (width-at t j h)) (begins-apart (widths t) j k l n)

-- a row whose parts are the cells
pub row-flat :
    (t : Table) (cells : List (List ℕ)) (row : List ℕ) → length cells ≡ wanted t
    → ((j : ℕ) → j < wanted t → part (offset t j) (width (kind_at t j)) row ≡ get_or cells j [])
    → take (row_width t) row ≡ flat cells
unfolding offset
row-flat t cells row e h =
    let l = length-widths t in
    ap (λ (n : ℕ). take n row) (sym (total-widths t))
    ∙ parts-flat (widths t) cells row (omega arith)
    (λ j k.
    let m : j < wanted t = omega arith in
    ap (λ (n : ℕ). part (begins (widths t) j) n row) (width-at t j m) ∙ h j m)

-- ---- the row before its cells are written

fit-in : (cs : List Column) → every fitting cs ≡ true → Fit (map width_in cs) (map blank_cell cs)
fit-in [] e = tt
fit-in (c ∷ cs) e =
    let b = and-pass (fitting c) (every fitting cs) e in
    (eqb-true _ _ b.0, fit-in cs b.1)

fit : (t : Table) → Fit (widths t) (map blank_cell (columns_in t))
unfolding widths
fit t = fit-in (columns_in t) (all-fitting t)

length-blank-cells : (t : Table) → length (flat (map blank_cell (columns_in t))) ≡ row_width t
length-blank-cells t = length-flat (widths t) (map blank_cell (columns_in t)) (fit t) ∙ total-widths t

pub length-blank : (t : Table) → length (blank_row t) ≡ widest_row
unfolding blank_row
length-blank t =
    let a = length-append (flat (map blank_cell (columns_in t))) (replicate (widest_row - row_width t) 0) in
    let z = length-replicate {A = ℕ} (widest_row - row_width t) 0 in
    let l = length-blank-cells t in
    let r = row_room t in
    a ∙ omega arith

pub blank-behind : (t : Table) → drop (row_width t) (blank_row t) ≡ replicate (widest_row - row_width t) 0
unfolding blank_row
blank-behind t = drop_at (flat (map blank_cell (columns_in t))) (replicate (widest_row - row_width t) 0) (row_width t) (length-blank-cells t)

cell_in : (cs : List Column) (j : ℕ) (d : Column) → j < length cs → get_or (map blank_cell cs) j [] ≡ blank_cell (get_or cs j d)
cell_in [] j d h = absurd (not-suc-le-zero h)
cell_in (c ∷ cs) zero d h = refl
cell_in (c ∷ cs) (suc j) d h = cell_in cs j d (le_of_suc-le-suc h)

-- column j's part of a blank row
pub blank_part : (t : Table) (j : ℕ) → j < wanted t → part (offset t j) (width (kind_at t j)) (blank_row t) ≡ blank_cell (column_at t j)
unfolding blank_row offset column_at
blank_part t j h =
    let l : j < length (widths t) = rw length-widths h in
    ap (λ (n : ℕ). part (begins (widths t) j) n (blank_row t)) (sym (width-at t j h))
    ∙ flat-part (widths t) (map blank_cell (columns_in t)) (replicate (widest_row - row_width t) 0) (fit t) j l
    ∙ cell_in (columns_in t) j (must "" Kinds.Text) h

-- where the column may be absent, its part is what is kept of an absent one
pub blank-optional :
    (t : Table) (j : ℕ) → j < wanted t → optional_at t j ≡ true
    → part (offset t j) (width (kind_at t j)) (blank_row t) ≡ (column_at t j).absent
unfolding optional_at
blank-optional t j h e = blank_part t j h ∙ blank-absent (column_at t j) e
