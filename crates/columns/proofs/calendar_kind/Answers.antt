use mathlib.Core.Path.{◌≡◌}
use native.Mathlib.Omega.{arith}
use Rattle.columns.specs.Layout.{kind_at, column_at}
use Rattle.columns.specs.Tables.{calendar_columns, columns_in}
use Rattle.columns.proofs.calendar_kind.Goals as goal

pub returns-in-0 : goal.returns-in-0
unfolding kind_at column_at columns_in calendar_columns
returns-in-0 c = rw c.in-0.is

pub returns-in-1 : goal.returns-in-1
unfolding kind_at column_at columns_in calendar_columns
returns-in-1 c = rw c.in-1.is

pub returns-in_default : goal.returns-in_default
unfolding kind_at column_at columns_in calendar_columns
returns-in_default c = let last : c.args.index ≡ 2 = omega arith in rw last
