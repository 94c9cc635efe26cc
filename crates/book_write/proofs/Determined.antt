-- The promise of each public function allows one outcome: its answer, and the lent bytes afterwards, follow from what was passed. Assumes nothing.
use mathlib.Core.Path.{sym, ◌∙◌}
use Rattle.lists.proofs.Promise.{Determined, OneResult}
use Rattle.book_write.proofs.next_number.Kinds as next-number
use Rattle.book_write.proofs.next_number.Reads as next-number-reads
use Rattle.book_write.proofs.write_plan_entry.Kinds as write-plan-entry
use Rattle.book_write.proofs.write_plan_entry.Reads as write-plan-entry-reads
use Rattle.book_write.proofs.write_entry.Kinds as write-entry
use Rattle.book_write.proofs.write_entry.Reads as write-entry-reads
use Rattle.book_write.proofs.write_entries.Kinds as write_entries
use Rattle.book_write.proofs.write_entries.Reads as write-entries-reads
use Rattle.book_write.proofs.mark_withdrawn.Kinds as mark-withdrawn
use Rattle.book_write.proofs.mark_withdrawn.Reads as mark-withdrawn-reads

pub next-number-determined : OneResult 1 next-number.ps next-number.r next-number-reads.Post
next-number-determined κs a x y s t p q = p ∙ sym q

-- ---- functions that write into their first parameter, and answer nothing

pub write-plan-entry-determined : Determined 2 write-plan-entry.ps write-plan-entry.r write-plan-entry-reads.Post (λ κs x s. s.0.now)
write-plan-entry-determined κs a x y s t p q = p ∙ sym q

pub write-entry-determined : Determined 2 write-entry.ps write-entry.r write-entry-reads.Post (λ κs x s. s.0.now)
write-entry-determined κs a x y s t p q = p ∙ sym q

pub write-entries-determined : Determined 2 write_entries.ps write_entries.r write-entries-reads.Post (λ κs x s. s.0.now)
write-entries-determined κs a x y s t p q = p ∙ sym q

pub mark-withdrawn-determined : Determined 1 mark-withdrawn.ps mark-withdrawn.r mark-withdrawn-reads.Post (λ κs x s. s.0.now)
mark-withdrawn-determined κs a x y s t p q = p ∙ sym q
