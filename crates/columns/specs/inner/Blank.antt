-- The row before its cells are written. Assumes nothing.
use Rattle.std.specs.Prelude.{ℕ, ◌-◌, List, ◌++◌, map, replicate}
use Rattle.lists.specs.Logic.{on}
use Rattle.lists.specs.Rows.{flat}
use Rattle.columns.specs.declared.Table.{Table}
use Rattle.columns.specs.Tables.{Column, columns_in, is_optional, row_width}
use Rattle.columns.specs.Layout.{width_in, widest_row}

-- what is kept where the column is absent, or zero bytes where it must be there
abbrev pub blank_cell : Column → List ℕ
blank_cell c = on (is_optional c) c.absent (replicate (width_in c) 0)

-- each column's blank cell, and zero bytes behind them
unfoldable pub blank_row : Table → List ℕ
blank_row t = flat (map blank_cell (columns_in t)) ++ replicate (widest_row - row_width t) 0
