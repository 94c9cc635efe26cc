-- `set_answer` meets its contract: the numbers of the answer are written. Assumes nothing.
use Rattle.desk_answers.proofs.AnswerLaws.{written}
use Rattle.desk_answers.proofs.set_answer.Goals as goal

pub returns : goal.returns
returns c = let t = written _ c.numbers-n.result _ _ c.numbers-n.ensures (c.write_answer.ensures.value, c.write_answer.ensures.answer_after) in record { value = t.0; answer_after = t.1 }
