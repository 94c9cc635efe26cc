-- `desk_feeds::desk_feed_end` meets its contract: the outcome that the call promises, told as numbers. Assumes nothing.
use Rattle.desk_answers.proofs.AnswerLaws.{of_end}
use Rattle.desk_feeds.proofs.desk_feed_end.Goals as goal

pub returns : goal.returns
returns c = let t = of_end _ _ _ _ _ _ _ _ (c.set_answer.ensures.value, c.set_answer.ensures.answer_after) (c.end-outcome.ensures.lent, c.end-outcome.ensures.numbers) in record { told = t.0; numbers = t.1 }
