-- The promise of each public function allows one outcome: its answer, and the lent bytes afterwards, follow from what was passed. Assumes nothing.
use mathlib.Core.Path.{sym, ◌∙◌}
use Rattle.lists.proofs.Promise.{OneResult, Determined}
use Rattle.update.proofs.status_after.Kinds as status-after
use Rattle.update.proofs.status_after.Reads as status-after-reads
use Rattle.update.proofs.kept_or.Kinds as kept-or
use Rattle.update.proofs.kept_or.Reads as kept-or-reads
use Rattle.update.proofs.apply_row.Kinds as apply-row
use Rattle.update.proofs.apply_row.Reads as apply-row-reads
use Rattle.update.proofs.begin_row.Kinds as begin-row
use Rattle.update.proofs.begin_row.Reads as begin-row-reads

-- ---- functions that answer, and are lent no bytes

pub status-after-determined : OneResult 0 status-after.ps status-after.r status-after-reads.Post
status-after-determined κs a x y s t p q = p ∙ sym q

pub kept-or-determined : OneResult 0 kept-or.ps kept-or.r kept-or-reads.Post
kept-or-determined κs a x y s t p q = p ∙ sym q

-- ---- functions that write into their first parameter, and answer nothing

pub apply-row-determined : Determined 2 apply-row.ps apply-row.r apply-row-reads.Post (λ κs x s. s.0.now)
apply-row-determined κs a x y s t p q = p ∙ sym q

pub begin-row-determined : Determined 1 begin-row.ps begin-row.r begin-row-reads.Post (λ κs x s. s.0.now)
begin-row-determined κs a x y s t p q = p ∙ sym q
