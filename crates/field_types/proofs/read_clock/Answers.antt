use mathlib.Core.Path.{◌∙◌}
use native.Mathlib.Omega.{arith}
use Rattle.field_types.proofs.TripleLaws.{triple-below, clock-other, clock-hour, clock-minute, clock-second, clock-is}
use Rattle.field_types.proofs.read_clock.Goals as goal

pub returns-in_err-h : goal.returns-in_err-h
returns-in_err-h c = c.from_residual.ensures ∙ clock-other _ _ c.in_err-h.ensures

pub returns-then-most-h : goal.returns-then-most-h
returns-then-most-h c = clock-hour _ _ c.in_ok-h.ensures c.if-most-h.true

pub returns-then-m-gt59 : goal.returns-then-m-gt59
returns-then-m-gt59 c = clock-minute _ _ c.in_ok-h.ensures c.if-m-gt59.true

pub returns-then-s-gt59 : goal.returns-then-s-gt59
returns-then-s-gt59 c = clock-second _ _ c.in_ok-h.ensures c.if-s-gt59.true

pub overflow_mul-result : goal.overflow_mul-result
overflow_mul-result c = omega (arith, triple-below _ _ _ c.in_ok-h.ensures)

pub overflow_add-result : goal.overflow_add-result
overflow_add-result c = omega (arith, triple-below _ _ _ c.in_ok-h.ensures)

pub overflow_add-result-2 : goal.overflow_add-result-2
overflow_add-result-2 c = omega (arith, triple-below _ _ _ c.in_ok-h.ensures)

pub returns : goal.returns
returns c = clock-is _ _ c.in_ok-h.ensures c.if-most-h.false c.if-m-gt59.false c.if-s-gt59.false
