-- The promise of sort_and_write allows one outcome: its answer with the counts, and book and table afterwards. Assumes nothing.
use mathlib.Core.Path.{sym, ◌∙◌}
use Rattle.lists.proofs.Promise.{Determined}
use Rattle.calls.specs.Leaves.{leaves}
use Rattle.opening_write.proofs.sort_and_write.Kinds as kinds
use Rattle.opening_write.proofs.sort_and_write.Reads as reads

pub sort-and-write-determined : Determined 3 kinds.ps kinds.r reads.Post (λ κs x s. leaves x s.1.1.0.now s.1.1.1.0.now)
sort-and-write-determined κs a x y s t p q = p ∙ sym q
