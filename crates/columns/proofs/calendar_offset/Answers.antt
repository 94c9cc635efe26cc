use mathlib.Core.Path.{◌≡◌}
use native.Mathlib.Omega.{arith}
use Rattle.columns.specs.Cell.{width}
use Rattle.columns.specs.Layout.{widths, total, offset}
use Rattle.columns.specs.Tables.{calendar_columns, columns_in}
use Rattle.columns.proofs.calendar_offset.Goals as goal

pub returns-in-0 : goal.returns-in-0
unfolding offset total widths width columns_in calendar_columns
returns-in-0 c = rw c.in-0.is

pub returns-in-1 : goal.returns-in-1
unfolding offset total widths width columns_in calendar_columns
returns-in-1 c = rw c.in-1.is

pub returns-in_default : goal.returns-in_default
unfolding offset total widths width columns_in calendar_columns
returns-in_default c = let last : c.args.index ≡ 2 = omega arith in rw last
