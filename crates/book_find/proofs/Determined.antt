-- The promise of each public function allows one outcome: its answer, and the lent bytes afterwards, follow from what was passed. Assumes nothing.
use mathlib.Core.Path.{sym, ◌∙◌}
use Rattle.lists.proofs.Promise.{Determined, OneResult}
use Rattle.book_find.proofs.find_message.Kinds as find-message
use Rattle.book_find.proofs.find_message.Reads as find-message-reads
use Rattle.book_find.proofs.find_plan.Kinds as find-plan
use Rattle.book_find.proofs.find_plan.Reads as find-plan-reads
use Rattle.book_find.proofs.plan_row.Kinds as plan-row
use Rattle.book_find.proofs.plan_row.Reads as plan-row-reads

pub find-message-determined : OneResult 1 find-message.ps find-message.r find-message-reads.Post
find-message-determined κs a x y s t p q = p ∙ sym q

pub find-plan-determined : OneResult 2 find-plan.ps find-plan.r find-plan-reads.Post
find-plan-determined κs a x y s t p q = p ∙ sym q

-- ---- one that answers, and writes a row

pub plan-row-answer-determined : OneResult 3 plan-row.ps plan-row.r plan-row-reads.Post
plan-row-answer-determined κs a x y s t p q = p.0 ∙ sym q.0

pub plan-row-row-determined : Determined 3 plan-row.ps plan-row.r plan-row-reads.Post (λ κs x s. s.1.1.1.1.0.now)
plan-row-row-determined κs a x y s t p q = p.1 ∙ sym q.1
