-- What a line gives, by its labels: what a caller of the readers knows of rows. Assumes nothing.
use mathlib.Core.Path.{◌≡◌, refl, sym, ap, ◌∙◌}
use mathlib.Core.Bool.{Bool, true, false}
use mathlib.Core.List.{List, [], ◌∷◌, map, append-nil}
use mathlib.Core.Logic.{⊎_elim}
use Prim.Native.Nat.{ℕ, zero, suc, ◌+◌, ◌≤◌, ◌<◌}
use native.Mathlib.Omega.{arith}
use lib.Dec.{eqb}
use lib.ListN.{length, get_or, replicate, length-map, length-replicate}
use Rattle.lists.specs.Logic.{on}
use Rattle.lists.specs.Part.{part, over, some}
use Rattle.lists.specs.Rows.{flat}
use Rattle.lists.proofs.OverLaws.{length_over}
use Rattle.turbo_labels.specs.Columns.{column_of}
use Rattle.columns.specs.declared.Table.{Table}
use Rattle.columns.specs.declared.Kind.TheVariants as Kinds
use Rattle.columns.specs.Cell.{width}
use Rattle.columns.specs.Tables.{Column, must, columns_in, name_of, cell_under, cells_of, stop_place, row_of, row_width, wrong_in, wrong_column, lesser, label_fault}
use Rattle.columns.specs.Layout.{wanted, column_at, kind_at, widths, offset}
use Rattle.columns.specs.Layout.{widest_row}
use Rattle.columns.proofs.PartLaws.{begins, Fit, length-flat, flat-part}
use Rattle.columns.proofs.LayoutLaws.{wanted-most, width-at, length-widths, total-widths}
use Rattle.rows.specs.declared.Shape.{Shape}
use Rattle.rows.specs.Shape.{places_of, shape_of, IsShape}
use Rattle.rows.specs.Reading.{cell_at, per_column, cells_by, first_wrong, read_given, read_cells, read_by}
use Rattle.rows.proofs.ColumnLaws.{WrongIs, wrong-is, fit-each}
use Rattle.rows.proofs.SoundLaws.{name-at, place_at, places-room, shape_is, right-sound}
use Rattle.rows.proofs.FillLaws.{cell-wide}

-- ---- the readers' rule is the rule by labels

-- the columns' places, as the labels have them
abbrev places_in : List Column → List (List ℕ) → List ℕ
places_in cs labels = map (λ (c : Column). column_of (name_of c) labels) cs

module _ (labels : List (List ℕ)) (line : List ℕ) where
  -- each of the columns cs stands at its place in ps
  abbrev Placed : List Column → List ℕ → Type 0
  Placed [] ps = Unit {0}
  Placed (c ∷ cs) [] = ⊥
  Placed (c ∷ cs) (p ∷ ps) = (p ≡ column_of (name_of c) labels) × Placed cs ps

  placed-each : (cs : List Column) (ps : List ℕ) (d : Column) → length cs ≤ length ps → ((k : ℕ) → k < length cs → get_or ps k 0 ≡ column_of (name_of (get_or cs k d)) labels) → Placed cs ps
  placed-each [] ps d h f = tt
  placed-each (c ∷ cs) [] d h f = absurd (omega arith)
  placed-each (c ∷ cs) (p ∷ ps) d h f = (f 0 (omega arith), placed-each cs ps d (omega arith) (λ k m. f (suc k) (omega arith)))

  placed-in : (cs : List Column) → Placed cs (places_in cs labels)
  placed-in [] = tt
  placed-in (c ∷ cs) = (refl, placed-in cs)

  cells-by : (cs : List Column) (ps : List ℕ) → Placed cs ps → per_column (cell_at (length labels) (stop_place labels) line) cs ps ≡ cells_of cs labels line
  unfolding per_column
  cells-by [] ps h = refl
  cells-by (c ∷ cs) [] h = absurd h
  cells-by (c ∷ cs) (p ∷ ps) h = rw (h.0, cells-by cs ps h.1)

  wrong-by : (cs : List Column) (ps : List ℕ) → Placed cs ps → first_wrong (cells_of cs labels line) ps ≡ wrong_in cs labels line
  unfolding first_wrong
  wrong-by [] ps h = refl
  wrong-by (c ∷ cs) [] h = absurd h
  wrong-by (c ∷ cs) (p ∷ ps) h = rw (h.0, wrong-by cs ps h.1)

-- what the readers give under the labels' shape
pub shape-reads : (t : Table) (labels : List (List ℕ)) (line : List ℕ) → label_fault t labels ≡ false → read_by t (shape_of t labels) line ≡ read_given (wrong_column t labels line) (row_of t labels line)
unfolding read_by wrong_column row_of column_at
shape-reads t labels line e =
    let w = wanted-most t in
    let r = places-room t labels in
    let p = placed-each labels line (columns_in t) (places_of t labels) (must "" Kinds.Text) (omega arith) (λ k m. place_at t labels e k m ∙ ap (λ (n : List ℕ). column_of n labels) (name-at t k m)) in
    ap (λ (h : Shape). read_by t h line) (shape_is t labels e)
    ∙ ap (λ (xs : List (List ℕ)). read_cells xs (places_of t labels)) (cells-by labels line (columns_in t) (places_of t labels) p)
    ∙ ap (λ (n : ℕ). read_given n (flat (cells_of (columns_in t) labels line))) (wrong-by labels line (columns_in t) (places_of t labels) p)

-- a shape without a fault counts the labels
pub shape-count : (t : Table) (labels : List (List ℕ)) → label_fault t labels ≡ false → (shape_of t labels).count ≡ length labels
shape-count t labels e = ap (λ (h : Shape). h.count) (shape_is t labels e)

-- and is one by which lines are read
pub shape-sound : (t : Table) (labels : List (List ℕ)) → label_fault t labels ≡ false → IsShape t (shape_of t labels)
shape-sound t labels e = rw (shape_is t labels e) (right-sound t labels e)

-- ---- cells and lengths

-- the cell of column k
abbrev pub cell_for : Table → List (List ℕ) → List ℕ → ℕ → List ℕ
cell_for t labels line k = cell_under labels line (column_at t k)

pub of_length : (cs : List Column) (labels : List (List ℕ)) (line : List ℕ) → length (cells_of cs labels line) ≡ length cs
of_length [] labels line = refl
of_length (c ∷ cs) labels line = ap suc (of_length cs labels line)

of_at : (cs : List Column) (labels : List (List ℕ)) (line : List ℕ) (d : Column) (k : ℕ) → k < length cs → get_or (cells_of cs labels line) k [] ≡ cell_under labels line (get_or cs k d)
of_at [] labels line d k h = absurd (omega arith)
of_at (c ∷ cs) labels line d zero h = refl
of_at (c ∷ cs) labels line d (suc k) h = of_at cs labels line d k (omega arith)

in-at : (cs : List Column) (labels : List (List ℕ)) (d : Column) (k : ℕ) → k < length cs → get_or (places_in cs labels) k 0 ≡ column_of (name_of (get_or cs k d)) labels
in-at [] labels d k h = absurd (omega arith)
in-at (c ∷ cs) labels d zero h = refl
in-at (c ∷ cs) labels d (suc k) h = in-at cs labels d k (omega arith)

module _ (t : Table) (labels : List (List ℕ)) (line : List ℕ) where
  pub cell-at : (k : ℕ) → k < wanted t → get_or (cells_of (columns_in t) labels line) k [] ≡ cell_for t labels line k
  unfolding column_at
  cell-at k h = of_at (columns_in t) labels line (must "" Kinds.Text) k h

  places-at : (k : ℕ) → k < wanted t → get_or (places_in (columns_in t) labels) k 0 ≡ column_of (name_of (column_at t k)) labels
  unfolding column_at
  places-at k h = in-at (columns_in t) labels (must "" Kinds.Text) k h

  -- what the wrong column says of the cells
  wrong-cells : WrongIs (cells_of (columns_in t) labels line) (places_in (columns_in t) labels) (wrong_column t labels line)
  unfolding wrong_column
  wrong-cells =
      let l = of_length (columns_in t) labels line in
      let m : length (places_in (columns_in t) labels) ≡ length (columns_in t) = length-map (columns_in t) _ in
      rw (wrong-by labels line (columns_in t) (places_in (columns_in t) labels) (placed-in labels line (columns_in t))) at
      (wrong-is (cells_of (columns_in t) labels line) (places_in (columns_in t) labels) (omega arith))

  -- no column is wrong where each cell is right
  pub all_right : wrong_column t labels line ≡ 0 → (k : ℕ) → k < wanted t → some (cell_for t labels line k) ≡ true
  all_right e k h =
      let l = of_length (columns_in t) labels line in
      ⊎_elim (λ r. ap some (sym (cell-at k h)) ∙ r.1 k (omega arith)) (λ r. absurd (let z = r.1 in omega arith)) wrong-cells

  pub none-wrong : ((k : ℕ) → k < wanted t → some (cell_for t labels line k) ≡ true) → wrong_column t labels line ≡ 0
  none-wrong f = ⊎_elim (λ r. r.0) (λ r. absurd (go r.0 r.2.0 r.2.1)) wrong-cells
    where
      go : (k : ℕ) → k < length (cells_of (columns_in t) labels line) → some (get_or (cells_of (columns_in t) labels line) k []) ≡ false → ⊥
      go k m q =
          let l = of_length (columns_in t) labels line in
          let h : k < wanted t = omega arith in
          let y = f k h in
          let x = ap some (cell-at k h) in
          let z : ◌≡◌ {A = ℕ} 0 1 = cc in
          omega arith

  -- column j is wrong, and every wrong one stands behind it
  pub record First (j : ℕ) : Type 0 where
    pub within : j < wanted t
    pub wrong : some (cell_for t labels line j) ≡ false
    pub least : (k : ℕ) → k < wanted t → some (cell_for t labels line k) ≡ false → column_of (name_of (column_at t j)) labels ≤ column_of (name_of (column_at t k)) labels

  -- where a column is wrong, it is the first
  pub first-wrong : (p : ℕ) → wrong_column t labels line ≡ p + 1 → (j : ℕ) × (p ≡ column_of (name_of (column_at t j)) labels) × First j
  first-wrong p e = ⊎_elim (λ r. absurd (let z = r.0 in omega arith)) (λ r. go r.0 r.1 r.2.0 r.2.1 r.2.2) wrong-cells
    where
      go : (j : ℕ) → wrong_column t labels line ≡ get_or (places_in (columns_in t) labels) j 0 + 1 → j < length (cells_of (columns_in t) labels line) → some (get_or (cells_of (columns_in t) labels line) j []) ≡ false
          → ((k : ℕ) → k < length (cells_of (columns_in t) labels line) → some (get_or (cells_of (columns_in t) labels line) k []) ≡ false → get_or (places_in (columns_in t) labels) j 0 ≤ get_or (places_in (columns_in t) labels) k 0)
          → (j : ℕ) × (p ≡ column_of (name_of (column_at t j)) labels) × First j
      go j w m q f =
          let l = of_length (columns_in t) labels line in
          let h : j < wanted t = omega arith in
          let x = places-at j h in (
            j,
            omega arith,
            record {
              within = h;
              wrong = ap some (sym (cell-at j h)) ∙ q;
              least = λ k n z. let y = places-at k n in let u = f k (omega arith) (ap some (cell-at k n) ∙ z) in omega arith;
            },
          )

  -- ---- a row without a wrong column

  module _ (e : wrong_column t labels line ≡ 0) where
    row-fit : Fit (widths t) (cells_of (columns_in t) labels line)
    row-fit =
        let w = length-widths t in
        let l = of_length (columns_in t) labels line in
        fit-each (widths t) (cells_of (columns_in t) labels line) (omega arith) (λ k m. one k (omega arith))
      where
        one : (k : ℕ) → k < wanted t → length (get_or (cells_of (columns_in t) labels line) k []) ≡ get_or (widths t) k 0
        one k m =
            ap length (cell-at k m)
            ∙ cell-wide t (length labels) (stop_place labels) line k (column_of (name_of (column_at t k)) labels) m (all_right e k m)
            ∙ sym (width-at t k m)

    pub row-length : length (row_of t labels line) ≡ row_width t
    unfolding row_of
    row-length = length-flat (widths t) (cells_of (columns_in t) labels line) row-fit ∙ total-widths t

    -- each column's part of the row is its cell
    pub row-part : (j : ℕ) → j < wanted t → part (offset t j) (width (kind_at t j)) (row_of t labels line) ≡ cell_for t labels line j
    unfolding row_of offset
    row-part j h =
        let l : j < length (widths t) = let w = length-widths t in omega arith in
        ap (λ (n : ℕ). part (begins (widths t) j) n (flat (cells_of (columns_in t) labels line))) (sym (width-at t j h))
        ∙ ap (part (begins (widths t) j) (get_or (widths t) j 0)) (sym (append-nil (flat (cells_of (columns_in t) labels line))))
        ∙ flat-part (widths t) (cells_of (columns_in t) labels line) [] row-fit j l
        ∙ cell-at j h
