-- Each promise allows one outcome: the answer with the counts, and book and table afterwards. Assumes nothing.
use mathlib.Core.Path.{sym, ◌∙◌}
use Rattle.lists.proofs.Promise.{Determined}
use Rattle.calls.specs.Leaves.{leaves}
use Rattle.opening.proofs.open.Kinds as opens
use Rattle.opening.proofs.open.Reads as opens-reads
use Rattle.opening.proofs.join_fitting.Kinds as join-fitting
use Rattle.opening.proofs.join_fitting.Reads as join-fitting-reads

pub open-determined : Determined 4 opens.ps opens.r opens-reads.Post (λ κs x s. leaves x s.1.1.0.now s.1.1.1.0.now)
open-determined κs a x y s t p q = p.0 ∙ sym q.0

pub join-fitting-determined : Determined 4 join-fitting.ps join-fitting.r join-fitting-reads.Post (λ κs x s. leaves x s.1.1.1.1.0.now s.1.1.1.1.1.0.now)
join-fitting-determined κs a x y s t p q = p ∙ sym q
