-- The promise of each public function allows one outcome: its answer, and the lent row afterwards, follow from what was passed. Assumes nothing.
use mathlib.Core.Path.{sym, ◌∙◌}
use Rattle.lists.proofs.Promise.{Determined, OneResult}
use Rattle.columns_cells.proofs.is_null.Kinds as is-null
use Rattle.columns_cells.proofs.is_null.Reads as is-null-reads
use Rattle.columns_cells.proofs.write_number.Kinds as write-number
use Rattle.columns_cells.proofs.write_number.Reads as write-number-reads
use Rattle.columns_cells.proofs.write_text.Kinds as write-text
use Rattle.columns_cells.proofs.write_text.Reads as write-text-reads
use Rattle.columns_cells.proofs.write_time.Kinds as write-time
use Rattle.columns_cells.proofs.write_time.Reads as write-time-reads
use Rattle.columns_cells.proofs.blank.Kinds as blank
use Rattle.columns_cells.proofs.blank.Reads as blank-reads
use Rattle.columns_cells.proofs.write_cell.Kinds as write_cell
use Rattle.columns_cells.proofs.write_cell.Reads as write-cell-reads

pub is-null-determined : OneResult 1 is-null.ps is-null.r is-null-reads.Post
is-null-determined κs a x y s t p q = p ∙ sym q

pub write-number-answer-determined : OneResult 1 write-number.ps write-number.r write-number-reads.Post
write-number-answer-determined κs a x y s t p q = p.0 ∙ sym q.0

pub write-number-row-determined : Determined 1 write-number.ps write-number.r write-number-reads.Post (λ κs x s. s.1.1.0.now)
write-number-row-determined κs a x y s t p q = p.1 ∙ sym q.1

pub write-text-answer-determined : OneResult 2 write-text.ps write-text.r write-text-reads.Post
write-text-answer-determined κs a x y s t p q = p.0 ∙ sym q.0

pub write-text-row-determined : Determined 2 write-text.ps write-text.r write-text-reads.Post (λ κs x s. s.1.0.now)
write-text-row-determined κs a x y s t p q = p.1 ∙ sym q.1

pub write-time-answer-determined : OneResult 4 write-time.ps write-time.r write-time-reads.Post
write-time-answer-determined κs a x y s t p q = p.0 ∙ sym q.0

pub write-time-row-determined : Determined 4 write-time.ps write-time.r write-time-reads.Post (λ κs x s. s.1.1.1.1.1.0.now)
write-time-row-determined κs a x y s t p q = p.1 ∙ sym q.1

pub blank-determined : OneResult 0 blank.ps blank.r blank-reads.Post
blank-determined κs a x y s t p q = p ∙ sym q

pub write-cell-answer-determined : OneResult 3 write_cell.ps write_cell.r write-cell-reads.Post
write-cell-answer-determined κs a x y s t p q = p.0 ∙ sym q.0

pub write-cell-row-determined : Determined 3 write_cell.ps write_cell.r write-cell-reads.Post (λ κs x s. s.1.1.1.1.1.0.now)
write-cell-row-determined κs a x y s t p q = p.1 ∙ sym q.1
