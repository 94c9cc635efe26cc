-- Each promise allows one outcome: answer and counts, and the lent bytes afterwards, follow from what was passed. Assumes nothing.
use mathlib.Core.Path.{sym, ◌∙◌}
use Rattle.lists.proofs.Promise.{Determined}
use Rattle.calls.specs.Leaves.{leaves}
use Rattle.withdrawals.proofs.withdraw.Kinds as withdraw
use Rattle.withdrawals.proofs.withdraw.Reads as withdraw-reads
use Rattle.withdrawals.proofs.rework_few.Kinds as rework-few
use Rattle.withdrawals.proofs.rework_few.Reads as rework-few-reads
use Rattle.withdrawals.proofs.rework_many.Kinds as rework-many
use Rattle.withdrawals.proofs.rework_many.Reads as rework-many-reads

pub withdraw-determined : Determined 2 withdraw.ps withdraw.r withdraw-reads.Post (λ κs x s. leaves x s.1.1.0.now s.1.1.1.0.now)
withdraw-determined κs a x y s t p q = p.0 ∙ sym q.0

pub rework-few-determined : Determined 2 rework-few.ps rework-few.r rework-few-reads.Post (λ κs x s. leaves x s.1.1.1.0.now s.1.1.1.1.0.now)
rework-few-determined κs a x y s t p q = p ∙ sym q

pub rework-many-determined : Determined 2 rework-many.ps rework-many.r rework-many-reads.Post (λ κs x s. leaves x s.1.1.1.0.now s.1.1.1.1.0.now)
rework-many-determined κs a x y s t p q = p ∙ sym q
