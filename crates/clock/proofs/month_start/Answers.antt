use native.Mathlib.Omega.{arith}
use Rattle.clock.proofs.MonthLaws.{common-most, month-early, month-leap, month-common}
use Rattle.clock.proofs.month_start.Goals.{else-m-ge2-via-then-m-ge2+else-y-eq0, else-m-ge2-via-else-m-ge2}
use Rattle.clock.proofs.month_start.Goals as goal

pub overflow_add-base-3 : goal.overflow_add-base-3
overflow_add-base-3 c = omega (arith, common-most c.args.k c.requires)

pub overflow_add-result : goal.overflow_add-result
overflow_add-result c = omega (arith, common-most c.args.k c.requires)

pub returns-then-y-eq0 : goal.returns-then-y-eq0
returns-then-y-eq0 c = month-leap c.args.k c.requires c.if-m-ge2.true c.if-y-eq0.true

pub returns-else-m-ge2 : goal.returns-else-m-ge2
returns-else-m-ge2 c = elim c.else-m-ge2.branch [
  | else-m-ge2-via-then-m-ge2+else-y-eq0 w ↦ month-common c.args.k c.requires w.if-m-ge2.true w.if-y-eq0.false
  | else-m-ge2-via-else-m-ge2 w ↦ month-early c.args.k c.requires w.if-m-ge2.false
]
