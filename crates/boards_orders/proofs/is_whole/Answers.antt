-- `is_whole` meets its contract. Assumes nothing.
use borrow.Author.Tests.{ne_eqb}
use Rattle.boards_orders.specs.Orders.{is_whole}
use Rattle.boards_orders.proofs.is_whole.Goals as goal

pub returns-in-2 : goal.returns-in-2
unfolding is_whole
returns-in-2 c = rw c.in-2.is c.has_words.ensures

pub returns-in-4 : goal.returns-in-4
unfolding is_whole
returns-in-4 c = rw c.in-4.is c.has_words-in-4.ensures

pub returns-in-5 : goal.returns-in-5
unfolding is_whole
returns-in-5 c = rw c.in-5.is c.has_words-in-5.ensures

pub returns-in-6 : goal.returns-in-6
unfolding is_whole
returns-in-6 c = rw c.in-6.is c.has_words-in-6.ensures

pub returns-in-7 : goal.returns-in-7
unfolding is_whole
returns-in-7 c = rw c.in-7.is c.has_words-in-7.ensures

pub returns-in-8 : goal.returns-in-8
unfolding is_whole
returns-in-8 c = rw c.in-8.is c.has_words-in-8.ensures

pub returns-in-9 : goal.returns-in-9
unfolding is_whole
returns-in-9 c = rw c.in-9.is c.has_words-in-9.ensures

pub returns-in_default : goal.returns-in_default
unfolding is_whole
returns-in_default c = let r = c.in_default.in_default-own.rest in rw (ne_eqb _ 2 r.0.0.0.0.0.0.1, ne_eqb _ 4 r.0.0.0.0.0.1, ne_eqb _ 5 r.0.0.0.0.1, ne_eqb _ 6 r.0.0.0.1, ne_eqb _ 7 r.0.0.1, ne_eqb _ 8 r.0.1, ne_eqb _ 9 r.1) c.has_words-in_default.ensures
