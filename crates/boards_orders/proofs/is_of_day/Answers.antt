-- `is_of_day` meets its contract. Assumes nothing.
use borrow.Author.Tests.{ne_eqb}
use Rattle.boards_orders.specs.Orders.{is_of_day}
use Rattle.boards_orders.proofs.is_of_day.Goals as goal

pub returns-in-2 : goal.returns-in-2
unfolding is_of_day
returns-in-2 c = rw c.in-2.is

pub returns-in-3 : goal.returns-in-3
unfolding is_of_day
returns-in-3 c = rw c.in-3.is

pub returns-in-4 : goal.returns-in-4
unfolding is_of_day
returns-in-4 c = rw c.in-4.is

pub returns-in-5 : goal.returns-in-5
unfolding is_of_day
returns-in-5 c = rw c.in-5.is

pub returns-in-7 : goal.returns-in-7
unfolding is_of_day
returns-in-7 c = rw c.in-7.is

pub returns-in-9 : goal.returns-in-9
unfolding is_of_day
returns-in-9 c = rw c.in-9.is

pub returns-in_default : goal.returns-in_default
unfolding is_of_day
returns-in_default c = let r = c.in_default.in_default-own.rest in rw (ne_eqb _ 2 r.0.0.0.0.0.1, ne_eqb _ 3 r.0.0.0.0.1, ne_eqb _ 4 r.0.0.0.1, ne_eqb _ 5 r.0.0.1, ne_eqb _ 7 r.0.1, ne_eqb _ 9 r.1)
