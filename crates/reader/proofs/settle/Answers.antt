use Prim.Native.Nat.{◌-◌}
use borrow.Author.Tests.{eq-eqb, ne_eqb}
use Rattle.reader.proofs.settle.Goals as goal

pub returns-then-last-ne0 : goal.returns-then-last-ne0
returns-then-last-ne0 c = rw (ne_eqb _ 0 c.if-last-ne0.true)

pub returns-then-last-ne0-2 : goal.returns-then-last-ne0-2
returns-then-last-ne0-2 c = rw (eq-eqb _ 0 c.if-last-ne0.false, ne_eqb _ 0 c.if-last-ne0-2.true)

pub returns : goal.returns
returns c = rw (eq-eqb _ 0 c.if-last-ne0.false, eq-eqb _ 0 c.if-last-ne0-2.false)
