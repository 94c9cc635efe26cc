use native.Mathlib.Omega.{arith}
use lib.Dec.{eqb}
use Rattle.book_find.proofs.CountLaws.{as_wanted, not-as-wanted, leads-start, leads-turn, leads-until, leads-end}
use Rattle.book_find.proofs.count_leading.Goals as goal

pub loop-i-init : goal.loop-i-init
loop-i-init c = let a = c.args in leads-start a.book.now a.at a.entries a.number a.own

pub returns-then-said-number : goal.returns-then-said-number
returns-then-said-number c =
    let a = c.args in
    let n = c.get_number-said.ensures in
    leads-until a.book.now a.at a.entries a.number a.own c.loop-i.i c.loop-i-test.true c.loop-i.invariant (rw (← n) (not-as-wanted (eqb c.get_number-said.result a.number) a.own c.if-said-number.true))

pub loop-i-preserved : goal.loop-i-preserved
loop-i-preserved c =
    let a = c.args in
    let n = c.get_number-said.ensures in
    leads-turn a.book.now a.at a.entries a.number a.own c.loop-i.i c.loop-i-test.true c.loop-i.invariant (rw (← n) (as_wanted (eqb c.get_number-said.result a.number) a.own c.if-said-number.false))

pub returns : goal.returns
returns c =
    let a = c.args in
    leads-end a.book.now a.at a.entries a.number a.own c.loop-i.i (omega arith) c.loop-i.invariant
