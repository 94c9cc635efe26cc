-- The promise allows one outcome: the answer with the counts, every byte of book and table, and the feed's numbers afterwards. Assumes nothing.
use mathlib.Core.Path.{sym, ◌∙◌}
use Rattle.lists.proofs.Promise.{Determined}
use Rattle.calls.specs.End.{end_with}
use Rattle.feeds_end.proofs.end.Kinds as end
use Rattle.feeds_end.proofs.end.Reads as end_reads

pub end-determined : Determined 5 end.ps end.r end_reads.Post (λ κs x s. end_with x s.1.1.0.now s.1.1.1.0.now s.1.1.1.1.1.0.now)
end-determined κs a x y s t p q = p.0 ∙ sym q.0
