-- The promise of each public function allows one answer, which follows from what was passed. None is lent bytes to write. Assumes nothing.
use mathlib.Core.Path.{sym, ◌∙◌}
use Rattle.lists.proofs.Promise.{Determined}
use Rattle.passage.proofs.all_common.Kinds as all-common
use Rattle.passage.proofs.all_common.Reads as all-common-reads
use Rattle.passage.proofs.update_in_range.Kinds as update-in-range
use Rattle.passage.proofs.update_in_range.Reads as update-in-range-reads
use Rattle.passage.proofs.plan_in_range.Kinds as plan-in-range
use Rattle.passage.proofs.plan_in_range.Reads as plan-in-range-reads
use Rattle.passage.proofs.row_in_range.Kinds as row-in-range
use Rattle.passage.proofs.row_in_range.Reads as row-in-range-reads

pub all-common-determined : Determined 1 all-common.ps all-common.r all-common-reads.Post (λ κs x s. x)
all-common-determined κs a x y s t p q = p ∙ sym q

pub update-in-range-determined : Determined 1 update-in-range.ps update-in-range.r update-in-range-reads.Post (λ κs x s. x)
update-in-range-determined κs a x y s t p q = p ∙ sym q

pub plan-in-range-determined : Determined 1 plan-in-range.ps plan-in-range.r plan-in-range-reads.Post (λ κs x s. x)
plan-in-range-determined κs a x y s t p q = p ∙ sym q

pub row-in-range-determined : Determined 1 row-in-range.ps row-in-range.r row-in-range-reads.Post (λ κs x s. x)
row-in-range-determined κs a x y s t p q = p ∙ sym q
