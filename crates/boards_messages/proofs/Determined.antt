-- The promise allows one outcome: the answer with the counts, and every byte of book and table afterwards. Assumes nothing.
use mathlib.Core.Path.{sym, ◌∙◌}
use Rattle.lists.proofs.Promise.{Determined}
use Rattle.calls.specs.Leaves.{leaves}
use Rattle.boards_messages.proofs.take.Kinds as take
use Rattle.boards_messages.proofs.take.Reads as take-reads

pub take-determined : Determined 4 take.ps take.r take-reads.Post (λ κs x s. leaves x s.1.1.1.1.1.0.now s.1.1.1.1.1.1.0.now)
take-determined κs a x y s t p q = p ∙ sym q
