-- The promise of each public function allows one outcome: its answer, and the lent bytes afterwards, follow from what was passed. Assumes nothing.
use mathlib.Core.Path.{sym, ◌∙◌}
use Rattle.lists.proofs.Promise.{Determined, OneResult}
use Rattle.messages_take.proofs.take_row.Kinds as take_row
use Rattle.messages_take.proofs.take_row.Reads as take-row-reads
use Rattle.messages_take.proofs.take_all.Kinds as take_all
use Rattle.messages_take.proofs.take_all.Reads as take-all-reads
use Rattle.messages_take.proofs.take_placed.Kinds as take-placed
use Rattle.messages_take.proofs.take_placed.Reads as take-placed-reads
use Rattle.messages_take.proofs.take_fitting.Kinds as take-fitting
use Rattle.messages_take.proofs.take_fitting.Reads as take-fitting-reads

pub take-row-answer-determined : OneResult 2 take_row.ps take_row.r take-row-reads.Post
take-row-answer-determined κs a x y s t p q = p.0 ∙ sym q.0

pub take-row-table-determined : Determined 2 take_row.ps take_row.r take-row-reads.Post (λ κs x s. s.0.now)
take-row-table-determined κs a x y s t p q = p.1 ∙ sym q.1

pub take-all-answer-determined : OneResult 2 take_all.ps take_all.r take-all-reads.Post
take-all-answer-determined κs a x y s t p q = p.0 ∙ sym q.0

pub take-all-table-determined : Determined 2 take_all.ps take_all.r take-all-reads.Post (λ κs x s. s.0.now)
take-all-table-determined κs a x y s t p q = p.1 ∙ sym q.1

pub take-placed-answer-determined : OneResult 3 take-placed.ps take-placed.r take-placed-reads.Post
take-placed-answer-determined κs a x y s t p q = p.0 ∙ sym q.0

pub take-placed-table-determined : Determined 3 take-placed.ps take-placed.r take-placed-reads.Post (λ κs x s. s.0.now)
take-placed-table-determined κs a x y s t p q = p.1 ∙ sym q.1

pub take-fitting-answer-determined : OneResult 2 take-fitting.ps take-fitting.r take-fitting-reads.Post
take-fitting-answer-determined κs a x y s t p q = p.0 ∙ sym q.0

pub take-fitting-table-determined : Determined 2 take-fitting.ps take-fitting.r take-fitting-reads.Post (λ κs x s. s.0.now)
take-fitting-table-determined κs a x y s t p q = p.1 ∙ sym q.1
