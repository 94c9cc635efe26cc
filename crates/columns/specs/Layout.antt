-- How a table's row is laid out: each wanted column's kind and place, as the claims speak of them. Assumes nothing.
use Rattle.std.specs.Prelude.{ℕ, ◌+◌, Bool, List, [], ◌∷◌, map, length, take, get_or}
use Rattle.columns.specs.declared.Table.{Table}
use Rattle.columns.specs.declared.Kind.{Kind}
use Rattle.columns.specs.declared.Kind.TheVariants as Kinds
use Rattle.columns.specs.Cell.{width}
use Rattle.columns.specs.Tables.{Column, must, columns_in, is_optional}

-- how many columns a table's reader wants
abbrev pub wanted : Table → ℕ
wanted t = length (columns_in t)

-- column j, from 0; one without a name past the last
unfoldable pub column_at : Table → ℕ → Column
column_at t j = get_or (columns_in t) j (must "" Kinds.Text)

-- its kind
unfoldable pub kind_at : Table → ℕ → Kind
kind_at t j = (column_at t j).kind

-- whether it may be absent
unfoldable pub optional_at : Table → ℕ → Bool
optional_at t j = is_optional (column_at t j)

-- ---- places

-- the bytes that have room for any table's row
abbrev pub widest_row : ℕ
widest_row = 80

abbrev pub width_in : Column → ℕ
width_in c = width c.kind

-- the widths of a table's cells
unfoldable pub widths : Table → List ℕ
widths t = map width_in (columns_in t)

-- the sum of the numbers
unfoldable pub total : List ℕ → ℕ
total [] = 0
total (n ∷ ns) = n + total ns

-- where the cell of column j begins: behind the cells of the columns before it
unfoldable pub offset : Table → ℕ → ℕ
offset t j = total (take j (widths t))
