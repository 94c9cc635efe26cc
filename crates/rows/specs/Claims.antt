-- What is certain of label lines, and of the rows that lines give under their labels. `proofs/Claims.antt` proves `All`. Assumes nothing.
use Rattle.std.specs.Prelude.{ℕ, ◌+◌, ◌≤◌, ◌<◌, ◌≡◌, false, List, [], ◌⊎◌, ◌↔◌, length, get_or}
use Rattle.lists.specs.Part.{part, some}
use Rattle.lists.specs.Text.{bytes}
use Rattle.turbo.specs.Split.{field_at}
use Rattle.turbo_labels.specs.Columns.{column_of}
use Rattle.turbo_labels.specs.Claims.{Twice}
use Rattle.columns.specs.declared.Table.{Table}
use Rattle.columns.specs.Cell.{width}
use Rattle.columns.specs.Tables.{name_of, row_width, stop_field, cell_of, row_of, wrong_column, label_fault}
use Rattle.columns.specs.Layout.{wanted, column_at, kind_at, optional_at, offset}
use Rattle.rows.specs.Shape.{shape_of}
use Rattle.rows.specs.Reading.{read_given, read_by}

-- ---- label lines

-- the name of column j stands at place p among the labels
abbrev pub Stands : Table → List (List ℕ) → ℕ → ℕ → Type 0
Stands t labels j p = (p < length labels) × (get_or labels p [] ≡ name_of (column_at t j))

-- A label line has no fault exactly where no wanted name stands twice and each column that must be there stands in it.
abbrev pub FaultlessLabels : Type 0
FaultlessLabels =
    (t : Table) (labels : List (List ℕ)) →
    (label_fault t labels ≡ false)
    ↔ (((j : ℕ) → j < wanted t → Twice (name_of (column_at t j)) labels → ⊥)
    × ((j : ℕ) → j < wanted t → optional_at t j ≡ false → (p : ℕ) × Stands t labels j p))

-- ---- rows

-- the cell that column j has by the field at place p
abbrev pub cell_by : Table → List (List ℕ) → List ℕ → ℕ → ℕ → List ℕ
cell_by t labels line j p = cell_of (column_at t j) (stop_field labels line) (field_at p line)

-- the part of column j in a row
abbrev pub part_of : Table → ℕ → List ℕ → List ℕ
part_of t j row = part (offset t j) (width (kind_at t j)) row

-- The stop type by which a time of a line may be missing is the line's own: the field under JourneyStopType, wherever that stands once; no bytes where it is missing.
abbrev pub OwnStopType : Type 0
OwnStopType =
    (labels : List (List ℕ)) (line : List ℕ)
    → let word = bytes "JourneyStopType" in
    ((p : ℕ) → p < length labels → get_or labels p [] ≡ word → (Twice word labels → ⊥) → stop_field labels line ≡ field_at p line)
    × (((p : ℕ) → p < length labels → get_or labels p [] ≡ word → ⊥) → stop_field labels line ≡ [])

-- By the shape of a label line without a fault, the code reads a line as its labels say: its row, or its first wrong column.
abbrev pub ReadByLabels : Type 0
ReadByLabels =
    (t : Table) (labels : List (List ℕ)) (line : List ℕ) → label_fault t labels ≡ false →
    read_by t (shape_of t labels) line ≡ read_given (wrong_column t labels line) (row_of t labels line)

-- The row of a line without a wrong column has its table's width.
abbrev pub RowsWide : Type 0
RowsWide = (t : Table) (labels : List (List ℕ)) (line : List ℕ) → wrong_column t labels line ≡ 0 → length (row_of t labels line) ≡ row_width t

-- A row holds exactly what its line says, column by column: the cell of the field that stands under the column's name,
-- and where no label has that name, what is kept of an absent column.
abbrev pub RowHoldsLine : Type 0
RowHoldsLine =
    (t : Table) (labels : List (List ℕ)) (line : List ℕ) → label_fault t labels ≡ false → wrong_column t labels line ≡ 0 →
    (j : ℕ) → j < wanted t →
    ((p : ℕ) → Stands t labels j p → part_of t j (row_of t labels line) ≡ cell_by t labels line j p)
    × (((p : ℕ) → Stands t labels j p → ⊥) → part_of t j (row_of t labels line) ≡ (column_at t j).absent)

-- at place p of the line stands the field of a wanted column, and it is outside its type
abbrev pub OutsideType : Table → List (List ℕ) → List ℕ → ℕ → Type 0
OutsideType t labels line p = (j : ℕ) × (j < wanted t) × Stands t labels j p × (some (cell_by t labels line j p) ≡ false)

-- No column is wrong exactly where no field is outside its type.
abbrev pub NoneWrong : Type 0
NoneWrong =
    (t : Table) (labels : List (List ℕ)) (line : List ℕ) → label_fault t labels ≡ false →
    (wrong_column t labels line ≡ 0) ↔ ((p : ℕ) → OutsideType t labels line p → ⊥)

-- The wrong column is the first in the line's own order, counted from 1.
abbrev pub FirstWrong : Type 0
FirstWrong =
    (t : Table) (labels : List (List ℕ)) (line : List ℕ) → label_fault t labels ≡ false → (p : ℕ) →
    (wrong_column t labels line ≡ p + 1) ↔ (OutsideType t labels line p × ((q : ℕ) → OutsideType t labels line q → p ≤ q))

-- ---- the order of columns

-- a name is missing from both label lines, or the fields under it are the same
abbrev pub Alike : List ℕ → List (List ℕ) → List ℕ → List (List ℕ) → List ℕ → Type 0
Alike w labels line labels' line' =
    ((column_of w labels ≡ length labels) × (column_of w labels' ≡ length labels'))
    ⊎ ((column_of w labels < length labels)
    × (column_of w labels' < length labels')
    × (field_at (column_of w labels) line ≡ field_at (column_of w labels') line'))

-- Columns may stand in any order, among any others: two lines, each under its labels, that have the same field under each wanted name and the same
-- stop type give the same row, and both are right or both are wrong; and where no wanted name stands twice, the labels of both are without a fault or neither's.
abbrev pub OrderIsFree : Type 0
OrderIsFree =
    (t : Table) (labels : List (List ℕ)) (line : List ℕ) (labels' : List (List ℕ)) (line' : List ℕ) →
    ((j : ℕ) → j < wanted t → Alike (name_of (column_at t j)) labels line labels' line') →
    stop_field labels line ≡ stop_field labels' line' →
    (row_of t labels line ≡ row_of t labels' line')
    × ((wrong_column t labels line ≡ 0) ↔ (wrong_column t labels' line' ≡ 0))
    × (((j : ℕ) → j < wanted t → Twice (name_of (column_at t j)) labels' → ⊥) → label_fault t labels ≡ false → label_fault t labels' ≡ false)

abbrev pub All : Type 0
All = FaultlessLabels × OwnStopType × ReadByLabels × RowsWide × RowHoldsLine × NoneWrong × FirstWrong × OrderIsFree
