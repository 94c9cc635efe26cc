-- The promise of each public function allows one outcome: the state, and the staging area afterwards. Assumes nothing.
use mathlib.Core.Path.{sym, ◌∙◌}
use Rattle.lists.proofs.Promise.{Determined, OneResult}
use Rattle.reader_step.proofs.StepLaws.{fresh-one}
use Rattle.reader_step.proofs.advance.Kinds as advance
use Rattle.reader_step.proofs.advance.Reads as advance-reads
use Rattle.reader_step.proofs.line_step.Kinds as line-step
use Rattle.reader_step.proofs.line_step.Reads as line-step-reads
use Rattle.reader_step.proofs.start.Kinds as start
use Rattle.reader_step.proofs.start.Reads as start-reads

pub advance-state-determined : Determined 4 advance.ps advance.r advance-reads.Post (λ κs x s. s.1.0.now)
advance-state-determined κs a x y s t p q = p.0 ∙ sym q.0

pub advance-area-determined : Determined 4 advance.ps advance.r advance-reads.Post (λ κs x s. s.1.1.1.1.1.0.now)
advance-area-determined κs a x y s t p q = p.1 ∙ sym q.1

pub line-step-determined : OneResult 3 line-step.ps line-step.r line-step-reads.Post
line-step-determined κs a x y s t p q = p.0 ∙ sym q.0

pub line-step-area-determined : Determined 3 line-step.ps line-step.r line-step-reads.Post (λ κs x s. s.1.1.1.1.1.0.now)
line-step-area-determined κs a x y s t p q = p.1 ∙ sym q.1

pub start-determined : OneResult 0 start.ps start.r start-reads.Post
start-determined κs a x y s t p q = fresh-one x p ∙ sym (fresh-one y q)
