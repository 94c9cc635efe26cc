-- `read_by` meets its contract. Assumes nothing.
use borrow.Author.Tests.{ne_eqb}
use Rattle.boards_orders.specs.Orders.{order_by}
use Rattle.boards_orders.proofs.read_by.Goals as goal

pub returns-in-0 : goal.returns-in-0
unfolding order_by
returns-in-0 c = rw c.in-0.is

pub returns-in-1 : goal.returns-in-1
unfolding order_by
returns-in-1 c = rw c.in-1.is c.read_register.ensures

pub returns-in-2 : goal.returns-in-2
unfolding order_by
returns-in-2 c = rw c.in-2.is c.read_message.ensures

pub returns-in-3 : goal.returns-in-3
unfolding order_by
returns-in-3 c = rw c.in-3.is c.read_withdraw.ensures

pub returns-in-4 : goal.returns-in-4
unfolding order_by
returns-in-4 c = rw c.in-4.is c.read_board.ensures

pub returns-in-5 : goal.returns-in-5
unfolding order_by
returns-in-5 c = rw c.in-5.is

pub returns-in-6 : goal.returns-in-6
unfolding order_by
returns-in-6 c = rw c.in-6.is

pub returns-in-7 : goal.returns-in-7
unfolding order_by
returns-in-7 c = rw c.in-7.is

pub returns-in-8 : goal.returns-in-8
unfolding order_by
returns-in-8 c = rw c.in-8.is

pub returns-in-9 : goal.returns-in-9
unfolding order_by
returns-in-9 c = rw c.in-9.is c.read_parts.ensures

pub returns-in_default : goal.returns-in_default
unfolding order_by
returns-in_default c = let r = c.in_default.in_default-own.rest in rw (ne_eqb _ 0 r.0.0.0.0.0.0.0.0.0.1, ne_eqb _ 1 r.0.0.0.0.0.0.0.0.1, ne_eqb _ 2 r.0.0.0.0.0.0.0.1, ne_eqb _ 3 r.0.0.0.0.0.0.1, ne_eqb _ 4 r.0.0.0.0.0.1, ne_eqb _ 5 r.0.0.0.0.1, ne_eqb _ 6 r.0.0.0.1, ne_eqb _ 7 r.0.0.1, ne_eqb _ 8 r.0.1, ne_eqb _ 9 r.1) c.wants.ensures
