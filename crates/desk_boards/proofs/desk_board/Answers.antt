-- `desk_boards::desk_board` meets its contract: the outcome that the call promises, told as numbers. Assumes nothing.
use Rattle.desk_boards.proofs.AnswerLaws.{of-board}
use Rattle.desk_boards.proofs.desk_board.Goals as goal

pub returns : goal.returns
returns c = let t = of-board _ _ _ _ _ (c.set_board.ensures.value, c.set_board.ensures.answer_after) (c.board-a.ensures.places_after, c.board-a.ensures.result_value) in record { number = t.0; answer = t.1.0; places = t.1.1 }
