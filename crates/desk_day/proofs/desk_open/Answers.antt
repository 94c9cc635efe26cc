-- `desk_day::desk_open` meets its contract: the outcome that the call promises, told as numbers. Assumes nothing.
use Rattle.desk_answers.proofs.AnswerLaws.{of-call}
use Rattle.desk_day.proofs.desk_open.Goals as goal

pub returns : goal.returns
returns c = let t = of-call _ _ _ _ _ _ _ (c.set_answer.ensures.value, c.set_answer.ensures.answer_after) (c.open-outcome.ensures.lent, c.open-outcome.ensures.numbers) in record { told = t.0; numbers = t.1 }
