-- Laws of a row while its line is read: the cells of the columns passed, and blank cells. Assumes nothing.
use mathlib.Core.Path.{◌≡◌, refl, sym, ap, ◌∙◌}
use mathlib.Core.Bool.{Bool, true, false}
use mathlib.Core.List.{List, [], ◌∷◌, ◌++◌, map}
use Prim.Native.Nat.{ℕ, zero, suc, ◌+◌, ◌-◌, ◌≤◌, ◌<◌}
use native.Mathlib.Decide.{dec_lt}
use native.Mathlib.Omega.{arith}
use borrow.Author.Tests.{lt-ltb, le-ltb, eqb-true, eqb-false}
use lib.Dec.{ltb, eqb}
use lib.ListN.{length, get_or, set, replicate, length-set, length-replicate}
use lib.Seq.{ext_get_or, get_or-set_same, get_or-set_other, set-get_or}
use Rattle.lists.specs.Logic.{on}
use Rattle.lists.specs.Text.{same}
use Rattle.lists.specs.Part.{over, some}
use Rattle.lists.specs.Rows.{flat}
use Rattle.lists.proofs.LogicLaws.{and-pass}
use Rattle.turbo.specs.Split.{field_at}
use Rattle.turbo_labels.specs.Columns.{field_under, most}
use Rattle.columns.specs.declared.Table.{Table}
use Rattle.columns.specs.declared.Kind.TheVariants as Kinds
use Rattle.columns.specs.Cell.{null, width, cell}
use Rattle.columns.specs.Tables.{Column, must, columns_in, is_optional, left_out, cell_of, row_width}
use Rattle.columns.specs.Layout.{wanted, column_at, kind_at, optional_at, width_in, widths, offset}
use Rattle.columns.specs.Layout.{widest_row}
use Rattle.columns.specs.inner.Blank.{blank_cell, blank_row}
use Rattle.columns.proofs.CellLaws.{cell-width}
use Rattle.columns.proofs.PartLaws.{Fit}
use Rattle.columns.proofs.LayoutLaws.{absent-width, width-at, length-widths, wanted-most}
use Rattle.rows.specs.declared.Shape.{Shape}
use Rattle.rows.specs.Shape.{IsShape}
use Rattle.rows.specs.Reading.{cell_at, per_column, cells_by, filled}
use Rattle.rows.proofs.ColumnLaws.{per-length, per-at, flat-set, fit-each}

pub equal : (k j : ℕ) → Dec (k ≡ j)
equal k j = go (eqb k j) refl
  where
    go : (b : Bool) → eqb k j ≡ b → Dec (k ≡ j)
    go true e = yes (eqb-true k j e)
    go false e = no (eqb-false k j e)

-- the place of column k, and its cell
abbrev pub place_of : Shape → ℕ → ℕ
place_of h k = get_or h.places k 0

abbrev pub cell_in : Table → Shape → List ℕ → ℕ → List ℕ
cell_in t h line k = cell_at h.count h.stop line (column_at t k) (place_of h k)

abbrev pub cells_in : Table → Shape → List ℕ → List (List ℕ)
cells_in t h line = cells_by (columns_in t) h.places h.count h.stop line

-- what the row holds of a column once the line is read up to the place `at`
abbrev held_at : ℕ → ℕ → ℕ → List ℕ → Column → ℕ → List ℕ
held_at at n s line c p = on (ltb p at) (cell_at n s line c p) (blank_cell c)

abbrev pub held_in : Table → Shape → List ℕ → ℕ → List (List ℕ)
held_in t h line at = per_column (held_at at h.count h.stop line) (columns_in t) h.places

-- a row with these cells
abbrev pub row_with : Table → List (List ℕ) → List ℕ
row_with t xs = flat xs ++ replicate (widest_row - row_width t) 0

-- nothing is passed yet
held_start : (n s : ℕ) (line : List ℕ) (cs : List Column) (ps : List ℕ) → length cs ≤ length ps → per_column (held_at 0 n s line) cs ps ≡ map blank_cell cs
unfolding per_column
held_start n s line [] ps h = refl
held_start n s line (c ∷ cs) [] h = absurd (omega arith)
held_start n s line (c ∷ cs) (p ∷ ps) h = rw (le-ltb p 0 (omega arith)) (ap (λ (l : List (List ℕ)). blank_cell c ∷ l) (held_start n s line cs ps (omega arith)))

-- ---- widths

blank-wide : (t : Table) (k : ℕ) → k < wanted t → length (blank_cell (column_at t k)) ≡ width (kind_at t k)
unfolding kind_at optional_at
blank-wide t k h = go (is_optional (column_at t k)) (absent-width t k h)
  where
    go : (b : Bool) → (b ≡ true → length (column_at t k).absent ≡ width (column_at t k).kind) → length (on b (column_at t k).absent (replicate (width_in (column_at t k)) 0)) ≡ width (column_at t k).kind
    go true f = f refl
    go false f = length-replicate (width (column_at t k).kind) 0

-- a cell that is right is as wide as its column; of n columns, it stands at p
pub cell-wide : (t : Table) (n s : ℕ) (line : List ℕ) (k p : ℕ) → k < wanted t → some (cell_at n s line (column_at t k) p) ≡ true → length (cell_at n s line (column_at t k) p) ≡ width (kind_at t k)
unfolding kind_at optional_at
cell-wide t n s line k p h e = go (ltb p n) (left_out (column_at t k) (field_at p line)) e
  where
    absent : some (column_at t k).absent ≡ true → length (column_at t k).absent ≡ width (column_at t k).kind
    absent q = absent-width t k h q

    go : (a b : Bool)
        → some (on a (on b (column_at t k).absent (cell (column_at t k).kind (field_under s n line) (field_at p line))) (column_at t k).absent) ≡ true
        → length (on a (on b (column_at t k).absent (cell (column_at t k).kind (field_under s n line) (field_at p line))) (column_at t k).absent) ≡ width (column_at t k).kind
    go true true q = absent q
    go true false q = cell-width (column_at t k).kind (field_under s n line) (field_at p line) q
    go false b q = absent q

-- ---- a shape's columns

-- a column that is missing may be absent
pub may-be-absent : (t : Table) (h : Shape) (g : IsShape t h) (k : ℕ) → k < wanted t → h.count ≤ place_of h k → is_optional (column_at t k) ≡ true
unfolding optional_at
may-be-absent t h g k m l = go (is_optional (column_at t k)) (g.there k m)
  where
    go : (b : Bool) → (b ≡ false → place_of h k < h.count) → b ≡ true
    go true f = refl
    go false f = absurd (let q = f refl in omega arith)

blank-absent : (c : Column) → is_optional c ≡ true → blank_cell c ≡ c.absent
blank-absent c e = rw e

module _ (t : Table) (h : Shape) (line : List ℕ) (g : IsShape t h) where
  roomy : length (columns_in t) ≤ length h.places
  roomy = let w = wanted-most t in let r = g.room in omega arith

  pub cells-length : length (cells_in t h line) ≡ wanted t
  cells-length = per-length (cell_at h.count h.stop line) (columns_in t) h.places roomy

  pub cells-roomy : length (cells_in t h line) ≤ length h.places
  cells-roomy = let l = cells-length in let r = roomy in omega arith

  pub cells_at : (k : ℕ) → k < wanted t → get_or (cells_in t h line) k [] ≡ cell_in t h line k
  unfolding column_at
  cells_at k m = per-at (cell_at h.count h.stop line) (columns_in t) h.places (must "" Kinds.Text) k roomy m

  module _ (at : ℕ) where
    held-length : length (held_in t h line at) ≡ wanted t
    held-length = per-length (held_at at h.count h.stop line) (columns_in t) h.places roomy

    held-at : (k : ℕ) → k < wanted t → get_or (held_in t h line at) k [] ≡ held_at at h.count h.stop line (column_at t k) (place_of h k)
    unfolding column_at
    held-at k m = per-at (held_at at h.count h.stop line) (columns_in t) h.places (must "" Kinds.Text) k roomy m

    held-passed : (k : ℕ) → k < wanted t → place_of h k < at → get_or (held_in t h line at) k [] ≡ cell_in t h line k
    held-passed k m l = held-at k m ∙ rw (lt-ltb (place_of h k) at l)

    held-ahead : (k : ℕ) → k < wanted t → at ≤ place_of h k → get_or (held_in t h line at) k [] ≡ blank_cell (column_at t k)
    held-ahead k m l = held-at k m ∙ rw (le-ltb (place_of h k) at l)

    -- the cells fit, where those that are passed are right
    pub held-fit : ((k : ℕ) → k < wanted t → place_of h k < at → some (cell_in t h line k) ≡ true) → Fit (widths t) (held_in t h line at)
    held-fit f = fit-each (widths t) (held_in t h line at) (held-length ∙ sym (length-widths t)) (λ k m. let w = length-widths t in one k (omega arith) ∙ sym (width-at t k (omega arith)))
      where
        one : (k : ℕ) → k < wanted t → length (get_or (held_in t h line at) k []) ≡ width (kind_at t k)
        one k m = go (dec_lt (place_of h k) at)
          where
            go : Dec (place_of h k < at) → length (get_or (held_in t h line at) k []) ≡ width (kind_at t k)
            go (yes l) = ap length (held-passed k m l) ∙ cell-wide t h.count h.stop line k (place_of h k) m (f k m l)
            go (no l) = ap length (held-ahead k m (omega (arith, l))) ∙ blank-wide t k m

  pub held-blank : row_with t (held_in t h line 0) ≡ blank_row t
  unfolding blank_row
  held-blank = rw (held_start h.count h.stop line (columns_in t) h.places roomy)

  -- nothing is left ahead
  pub held-end : (at : ℕ) → ((k : ℕ) → k < wanted t → at ≤ place_of h k → h.count ≤ place_of h k) → held_in t h line at ≡ cells_in t h line
  held-end at f = ext_get_or [] (held_in t h line at) (cells_in t h line) (held-length at ∙ sym cells-length) (λ k m. let l = held-length at in one k (omega arith))
    where
      gone : (k : ℕ) → k < wanted t → h.count ≤ place_of h k → blank_cell (column_at t k) ≡ cell_in t h line k
      gone k m l = blank-absent (column_at t k) (may-be-absent t h g k m l) ∙ rw (le-ltb (place_of h k) h.count l)

      one : (k : ℕ) → k < wanted t → get_or (held_in t h line at) k [] ≡ get_or (cells_in t h line) k []
      one k m = go (dec_lt (place_of h k) at)
        where
          go : Dec (place_of h k < at) → get_or (held_in t h line at) k [] ≡ get_or (cells_in t h line) k []
          go (yes l) = held-passed at k m l ∙ sym (cells_at k m)
          go (no l) = held-ahead at k m (omega (arith, l)) ∙ gone k m (f k m (omega (arith, l))) ∙ sym (cells_at k m)

  -- column j, the next that is ahead
  module _ (at j : ℕ) (m : j < wanted t) (a : at ≤ place_of h j) (b : place_of h j < h.count)
      (least : (k : ℕ) → k < wanted t → at ≤ place_of h k → place_of h k < h.count → place_of h j ≤ place_of h k) where
    pub others-behind : (k : ℕ) → k < wanted t → (k ≡ j → ⊥) → at ≤ place_of h k → place_of h j < place_of h k
    others-behind k n d l = go (dec_lt (place_of h k) h.count) (dec_lt (place_of h j) (place_of h k))
      where
        go : Dec (place_of h k < h.count) → Dec (place_of h j < place_of h k) → place_of h j < place_of h k
        go x (yes y) = y
        go (yes x) (no y) = absurd (d (sym (g.apart j k m n (let z = least k n l x in omega (arith, y)) b)))
        go (no x) (no y) = omega (arith, x)

    pub cell-of : cell_in t h line j ≡ cell_of (column_at t j) (field_under h.stop h.count line) (field_at (place_of h j) line)
    cell-of = rw (lt-ltb (place_of h j) h.count b)

    held-turn : held_in t h line (place_of h j + 1) ≡ set (held_in t h line at) j (cell_in t h line j)
    held-turn =
        let l = held-length at in
        let u = held-length (place_of h j + 1) in
        let v = length-set (held_in t h line at) j (cell_in t h line j) in
        ext_get_or [] (held_in t h line (place_of h j + 1)) (set (held_in t h line at) j (cell_in t h line j)) (omega arith) (λ k n. one k (omega arith))
      where
        one : (k : ℕ) → k < wanted t → get_or (held_in t h line (place_of h j + 1)) k [] ≡ get_or (set (held_in t h line at) j (cell_in t h line j)) k []
        one k n = go (equal k j) (dec_lt (place_of h k) at)
          where
            go : Dec (k ≡ j) → Dec (place_of h k < at) → get_or (held_in t h line (place_of h j + 1)) k [] ≡ get_or (set (held_in t h line at) j (cell_in t h line j)) k []
            go (yes q) d =
                rw q
                (held-passed (place_of h j + 1) j m (omega arith)
                ∙ sym (get_or-set_same (held_in t h line at) j (cell_in t h line j) [] (omega (arith, held-length at))))
            go (no q) (yes d) =
                held-passed (place_of h j + 1) k n (omega arith)
                ∙ sym (get_or-set_other (held_in t h line at) j k (cell_in t h line j) [] q ∙ held-passed at k n d)
            go (no q) (no d) =
                let o = others-behind k n q (omega (arith, d)) in
                held-ahead (place_of h j + 1) k n (omega arith)
                ∙ sym (get_or-set_other (held_in t h line at) j k (cell_in t h line j) [] q ∙ held-ahead at k n (omega (arith, d)))

    -- the row with the field's cell
    module _ (f : (k : ℕ) → k < wanted t → place_of h k < at → some (cell_in t h line k) ≡ true) (r : some (cell_in t h line j) ≡ true) where
      row_written : cell_in t h line j ≡ cell (column_at t j).kind (field_under h.stop h.count line) (field_at (place_of h j) line) → over (offset t j) (cell (column_at t j).kind (field_under h.stop h.count line) (field_at (place_of h j) line)) (row_with t (held_in t h line at)) ≡ row_with t (held_in t h line (place_of h j + 1))
      unfolding offset
      row_written e =
          let w = length-widths t in
          rw (← e, held-turn)
          (flat-set (widths t) (held_in t h line at) (replicate (widest_row - row_width t) 0) j (cell_in t h line j) (held-fit at f) (omega arith)
          (cell-wide t h.count h.stop line j (place_of h j) m r ∙ sym (width-at t j m)))

      row_kept : is_optional (column_at t j) ≡ true → cell_in t h line j ≡ (column_at t j).absent → row_with t (held_in t h line at) ≡ row_with t (held_in t h line (place_of h j + 1))
      row_kept o e =
          let q : cell_in t h line j ≡ get_or (held_in t h line at) j [] = e ∙ sym (held-ahead at j m a ∙ blank-absent (column_at t j) o) in
          ap (row_with t) (sym (held-turn ∙ ap (set (held_in t h line at) j) q ∙ set-get_or (held_in t h line at) j []))

      pub row-turn : filled t j (field_under h.stop h.count line) (field_at (place_of h j) line) (row_with t (held_in t h line at)) ≡ row_with t (held_in t h line (place_of h j + 1))
      row-turn = go (left_out (column_at t j) (field_at (place_of h j) line)) refl
        where
          go : (x : Bool) → left_out (column_at t j) (field_at (place_of h j) line) ≡ x →
              on x (row_with t (held_in t h line at)) (over (offset t j) (cell (column_at t j).kind (field_under h.stop h.count line) (field_at (place_of h j) line)) (row_with t (held_in t h line at))) ≡ row_with t (held_in t h line (place_of h j + 1))
          go true x = row_kept (and-pass (is_optional (column_at t j)) _ x).0 (cell-of ∙ rw x)
          go false x = row_written (cell-of ∙ rw x)
