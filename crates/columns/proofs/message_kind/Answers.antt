use mathlib.Core.Path.{◌≡◌, ◌∙◌}
use native.Mathlib.Omega.{arith}
use Rattle.columns.specs.Layout.{kind_at, column_at}
use Rattle.columns.specs.Tables.{message_columns, columns_in}
use Rattle.columns.proofs.message_kind.Goals as goal

pub returns-in-0 : goal.returns-in-0
unfolding kind_at column_at columns_in message_columns
returns-in-0 c = rw c.in-0.is

pub returns-in-1 : goal.returns-in-1
unfolding kind_at column_at columns_in message_columns
returns-in-1 c = rw c.in-1.is

pub returns-in-2 : goal.returns-in-2
unfolding kind_at column_at columns_in message_columns
returns-in-2 c = rw c.in-2.is

pub returns-in-3 : goal.returns-in-3
unfolding kind_at column_at columns_in message_columns
returns-in-3 c = rw c.in-3.is

pub returns-in-4 : goal.returns-in-4
unfolding kind_at column_at columns_in message_columns
returns-in-4 c = rw c.in-4.is

pub returns-in-5 : goal.returns-in-5
unfolding kind_at column_at columns_in message_columns
returns-in-5 c = rw c.in-5.is

pub returns-in-6 : goal.returns-in-6
unfolding kind_at column_at columns_in message_columns
returns-in-6 c = rw c.in-6.is

pub returns-in-7 : goal.returns-in-7
unfolding kind_at column_at columns_in message_columns
returns-in-7 c = rw c.in-7.is

pub returns-in-8 : goal.returns-in-8
unfolding kind_at column_at columns_in message_columns
returns-in-8 c = rw c.in-8.is

pub returns-in-9 : goal.returns-in-9
unfolding kind_at column_at columns_in message_columns
returns-in-9 c = rw c.in-9.is

pub returns-in-10 : goal.returns-in-10
unfolding kind_at column_at columns_in message_columns
returns-in-10 c = rw c.in-10.is

pub returns-in-11 : goal.returns-in-11
unfolding kind_at column_at columns_in message_columns
returns-in-11 c = rw c.in-11.is

pub returns-in-12 : goal.returns-in-12
unfolding kind_at column_at columns_in message_columns
returns-in-12 c = rw c.in-12.is

pub returns-in-13 : goal.returns-in-13
unfolding kind_at column_at columns_in message_columns
returns-in-13 c = c.cancelled_kind.ensures ∙ rw c.in-13.is

pub returns-in-14 : goal.returns-in-14
unfolding kind_at column_at columns_in message_columns
returns-in-14 c = rw c.in-14.is

pub returns-in_default : goal.returns-in_default
unfolding kind_at column_at columns_in message_columns
returns-in_default c = let last : c.args.index ≡ 15 = omega arith in c.yes_no_kind.ensures ∙ rw last
