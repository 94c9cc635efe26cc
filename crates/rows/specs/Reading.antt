-- What a data line of a wanted table gives, by the shape of its labels: as the code reads it. Assumes nothing.
use Rattle.std.specs.Prelude.{ℕ, ◌+◌, List, [], ◌∷◌, eqb, ltb, replicate, Result, Ok, Err}
use Rattle.lists.specs.Logic.{on}
use Rattle.lists.specs.Part.{over, some}
use Rattle.lists.specs.Rows.{flat}
use Rattle.turbo.specs.Split.{field_at}
use Rattle.turbo_labels.specs.Columns.{field_under}
use Rattle.columns.specs.declared.Table.{Table}
use Rattle.columns.specs.Cell.{cell}
use Rattle.columns.specs.Tables.{Column, columns_in, left_out, cell_of, lesser}
use Rattle.columns.specs.Layout.{column_at, offset}
use Rattle.columns.specs.Layout.{widest_row}
use Rattle.rows.specs.declared.Shape.{Shape}

-- the cell of the column c, which stands at place p of n columns, in a line whose stop type stands at place s
abbrev pub cell_at : ℕ → ℕ → List ℕ → Column → ℕ → List ℕ
cell_at n s line c p = on (ltb p n) (cell_of c (field_under s n line) (field_at p line)) c.absent

-- what f gives of each column and its place
unfoldable pub per_column : (Column → ℕ → List ℕ) → List Column → List ℕ → List (List ℕ)
per_column f [] ps = []
per_column f (c ∷ cs) [] = []
per_column f (c ∷ cs) (p ∷ ps) = f c p ∷ per_column f cs ps

-- the cells of a line whose wanted columns stand at the places ps of n columns, and whose stop type stands at s
abbrev pub cells_by : List Column → List ℕ → ℕ → ℕ → List ℕ → List (List ℕ)
cells_by cs ps n s line = per_column (cell_at n s line) cs ps

-- the first column, from 1 and in the line's own order, of whose field nothing is kept, by the cells and their places; 0 where there is none
unfoldable pub first_wrong : List (List ℕ) → List ℕ → ℕ
first_wrong [] ps = 0
first_wrong (x ∷ xs) [] = 0
first_wrong (x ∷ xs) (p ∷ ps) = on (some x) (first_wrong xs ps) (lesser (p + 1) (first_wrong xs ps))

-- the row, and zero bytes behind it; or the column at fault
abbrev pub read_given : ℕ → List ℕ → Result (List ℕ) ℕ
read_given w row = on (eqb w 0) (Ok (over 0 row (replicate widest_row 0))) (Err w)

-- what the cells of the columns at the places ps give
abbrev pub read_cells : List (List ℕ) → List ℕ → Result (List ℕ) ℕ
read_cells xs ps = read_given (first_wrong xs ps) (flat xs)

unfoldable pub read_by : Table → Shape → List ℕ → Result (List ℕ) ℕ
read_by t h line = read_cells (cells_by (columns_in t) h.places h.count h.stop line) h.places

-- a blank row once the field f of column j is read
abbrev pub filled : Table → ℕ → List ℕ → List ℕ → List ℕ → List ℕ
filled t j stop f row = on (left_out (column_at t j) f) row (over (offset t j) (cell (column_at t j).kind stop f) row)
