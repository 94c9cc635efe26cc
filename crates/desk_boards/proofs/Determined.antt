-- Each promise allows one outcome: the number returned, the answer's numbers, and every lent byte or place afterwards. Assumes nothing.
use mathlib.Core.Path.{sym, ◌∙◌}
use Rattle.lists.proofs.Promise.{Determined, OneResult}
use Rattle.desk_boards.proofs.desk_board.Kinds as board
use Rattle.desk_boards.proofs.desk_board.Reads as board-reads
use Rattle.desk_boards.proofs.set_board.Kinds as of-board
use Rattle.desk_boards.proofs.set_board.Reads as of-board-reads

pub board-determined : OneResult 5 board.ps board.r board-reads.Post
board-determined κs a x y s t p q = p.0 ∙ sym q.0

pub board-answer-determined : Determined 5 board.ps board.r board-reads.Post (λ κs x s. s.1.1.1.1.1.1.1.1.0.now)
board-answer-determined κs a x y s t p q = p.1.0 ∙ sym q.1.0

pub board-places-determined : Determined 5 board.ps board.r board-reads.Post (λ κs x s. s.1.1.1.1.1.1.1.0.now)
board-places-determined κs a x y s t p q = p.1.1 ∙ sym q.1.1

pub set-board-determined : OneResult 1 of-board.ps of-board.r of-board-reads.Post
set-board-determined κs a x y s t p q = p.0 ∙ sym q.0

pub set-board-numbers-determined : Determined 1 of-board.ps of-board.r of-board-reads.Post (λ κs x s. s.0.now)
set-board-numbers-determined κs a x y s t p q = p.1 ∙ sym q.1
