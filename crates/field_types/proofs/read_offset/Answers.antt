use mathlib.Core.Path.{◌∙◌}
use native.Mathlib.Omega.{arith}
use Rattle.field_types.proofs.DigitLaws.{number-told}
use Rattle.field_types.proofs.StampLaws.{offset-length, offset-colon, offset-no-hour, offset-no-minute, offset-minute, offset-over, offset-is}
use Rattle.field_types.proofs.read_offset.Goals as goal

pub returns-then-field-ne5 : goal.returns-then-field-ne5
returns-then-field-ne5 c = offset-length _ c.if-field-ne5.true

pub returns-then-field-ne58 : goal.returns-then-field-ne58
returns-then-field-ne58 c = offset-colon _ c.if-field-ne58.true

pub returns-in_err-h : goal.returns-in_err-h
returns-in_err-h c = c.from_residual.ensures ∙ offset-no-hour _ c.in_err-h.ensures

pub returns-in_err-m : goal.returns-in_err-m
returns-in_err-m c = c.from_residual-in_err-m.ensures ∙ offset-no-minute _ _ c.in_ok-h.ensures c.in_err-m.ensures

pub returns-then-m-gt59 : goal.returns-then-m-gt59
returns-then-m-gt59 c = offset-minute _ _ c.in_ok-h.ensures _ c.in_ok-m.ensures c.if-m-gt59.true

pub overflow_mul-h : goal.overflow_mul-h
overflow_mul-h c = omega (arith, (number-told 2 _ c.in_ok-h.ensures).below)

pub overflow_add-h : goal.overflow_add-h
overflow_add-h c = omega (arith, (number-told 2 _ c.in_ok-h.ensures).below)

pub returns-then-h-m-gt840 : goal.returns-then-h-m-gt840
returns-then-h-m-gt840 c = offset-over _ _ c.in_ok-h.ensures _ c.in_ok-m.ensures c.if-h-m-gt840.true

pub returns : goal.returns
returns c =
    offset-is _ _ c.in_ok-h.ensures _ c.in_ok-m.ensures c.if-m-gt59.false c.if-h-m-gt840.false c.if-field-ne5.false c.if-field-ne58.false
