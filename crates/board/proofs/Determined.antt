-- The promise of the public function allows one outcome: its answer and the lent places afterwards follow from what was passed. Assumes nothing.
use mathlib.Core.Path.{sym, ap, ◌∙◌}
use Rattle.lists.proofs.Promise.{Determined, OneResult}
use Rattle.board.specs.Rules.{Board}
use Rattle.board.proofs.board.Kinds as board
use Rattle.board.proofs.board.Reads as board-reads

pub board-determined : OneResult 4 board.ps board.r board-reads.Post × Determined 4 board.ps board.r board-reads.Post (λ κs x s. s.1.1.1.1.1.1.1.0.now)
board-determined = (
  λ κs a x y s t p q. ap (λ (b : Board). b.answer) (p.0 ∙ sym q.0),
  λ κs a x y s t p q. ap (λ (b : Board). b.places) (p.0 ∙ sym q.0),
)
