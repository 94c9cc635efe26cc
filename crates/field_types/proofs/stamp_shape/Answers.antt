use borrow.Author.Tests.{eq-eqb, ne_eqb}
use lib.Dec.{eqb}
use lib.ListN.{length}
use Rattle.lists.proofs.LogicLaws.{and-false}
use Rattle.field_types.proofs.stamp_shape.Goals as goal

pub returns-then-field-ne25 : goal.returns-then-field-ne25
returns-then-field-ne25 c = rw (ne_eqb _ 25 c.if-field-ne25.true)

pub returns-then-field-ne84 : goal.returns-then-field-ne84
returns-then-field-ne84 c = rw (ne_eqb _ 84 c.if-field-ne84.true, and-false (eqb (length c.args.field.now) 25))

pub returns-then-field-eq43 : goal.returns-then-field-eq43
returns-then-field-eq43 c = rw (eq-eqb _ 25 c.if-field-ne25.false, eq-eqb _ 84 c.if-field-ne84.false, eq-eqb _ 43 c.if-field-eq43.true)

pub returns : goal.returns
returns c = rw (eq-eqb _ 25 c.if-field-ne25.false, eq-eqb _ 84 c.if-field-ne84.false, ne_eqb _ 43 c.if-field-eq43.false)
