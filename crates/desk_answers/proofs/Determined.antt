-- Each promise allows one outcome: the number returned, the answer's numbers, and every lent number afterwards. Assumes nothing.
use mathlib.Core.Path.{sym, ◌∙◌}
use Rattle.lists.proofs.Promise.{Determined, OneResult}
use Rattle.desk_answers.proofs.set_answer.Kinds as of-call
use Rattle.desk_answers.proofs.set_answer.Reads as of-call-reads

pub set-answer-determined : OneResult 1 of-call.ps of-call.r of-call-reads.Post
set-answer-determined κs a x y s t p q = p.0 ∙ sym q.0

pub set-answer-numbers-determined : Determined 1 of-call.ps of-call.r of-call-reads.Post (λ κs x s. s.0.now)
set-answer-numbers-determined κs a x y s t p q = p.1 ∙ sym q.1
