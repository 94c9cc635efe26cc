-- The promise of each public function allows one outcome: its answer, and the lent bytes afterwards, follow from what was passed. Assumes nothing.
use mathlib.Core.Path.{sym, ◌∙◌}
use Rattle.lists.proofs.Promise.{Determined, OneResult}
use Rattle.plan.proofs.join.Kinds as join
use Rattle.plan.proofs.join.Reads as join-reads
use Rattle.plan.proofs.write_body.Kinds as write-body
use Rattle.plan.proofs.write_body.Reads as write-body-reads
use Rattle.plan.proofs.read_shared.Kinds as read-shared
use Rattle.plan.proofs.read_shared.Reads as read-shared-reads

pub join-determined : OneResult 3 join.ps join.r join-reads.Post
join-determined κs a x y s t p q = p.0 ∙ sym q.0

pub join-bodies-determined : Determined 3 join.ps join.r join-reads.Post (λ κs x s. s.1.1.1.1.0.now)
join-bodies-determined κs a x y s t p q = p.1 ∙ sym q.1

pub write-body-determined : Determined 3 write-body.ps write-body.r write-body-reads.Post (λ κs x s. s.0.now)
write-body-determined κs a x y s t p q = p ∙ sym q

pub read-shared-determined : Determined 2 read-shared.ps read-shared.r read-shared-reads.Post (λ κs x s. s.0.now)
read-shared-determined κs a x y s t p q = p ∙ sym q
