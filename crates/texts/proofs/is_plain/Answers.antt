use mathlib.Core.Path.{sym, ◌∙◌}
use Rattle.texts.proofs.PlainLaws.{plain-none, plain-long, plain-sized, byte-below, byte_above, byte-slash, byte-plain, plain-ends, plain-goes, plain_done}
use Rattle.texts.proofs.is_plain.Goals as goal

pub returns-then-field-lt1 : goal.returns-then-field-lt1
returns-then-field-lt1 c = sym (plain-none _ c.if-field-lt1.true)

pub returns-then-field-gt10 : goal.returns-then-field-gt10
returns-then-field-gt10 c = sym (plain-long _ c.if-field-gt10.true)

pub loop-b-init : goal.loop-b-init
loop-b-init c = plain-sized c.args.field.now c.if-field-lt1.false c.if-field-gt10.false

pub returns-then-c-lt32 : goal.returns-then-c-lt32
returns-then-c-lt32 c =
    sym (c.loop-b.invariant ∙ plain-ends _ c.loop-b.b-index c.loop-b-test.true (byte-below _ c.if-c-lt32.true))

pub returns-then-c-gt126 : goal.returns-then-c-gt126
returns-then-c-gt126 c =
    sym (c.loop-b.invariant ∙ plain-ends _ c.loop-b.b-index c.loop-b-test.true (byte_above _ c.if-c-gt126.true))

pub returns-then-c-eq92 : goal.returns-then-c-eq92
returns-then-c-eq92 c =
    sym (c.loop-b.invariant ∙ plain-ends _ c.loop-b.b-index c.loop-b-test.true (byte-slash _ c.if-c-eq92.true))

pub loop-b-preserved : goal.loop-b-preserved
loop-b-preserved c =
    let byte = byte-plain _ c.if-c-lt32.false c.if-c-gt126.false c.if-c-eq92.false in
    c.loop-b.invariant ∙ plain-goes _ c.loop-b.b-index c.loop-b-test.true byte

pub returns : goal.returns
returns c = sym (c.loop-b.invariant ∙ plain_done _ c.loop-b.b-index c.loop-b-test.false)
