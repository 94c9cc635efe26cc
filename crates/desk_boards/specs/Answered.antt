-- The numbers of a board's answer, 0 where there is none: number, places written, shown in all. Assumes nothing.
use Rattle.std.specs.Prelude.{ℕ, List, [], ◌∷◌}
use Rattle.board.specs.Rules.{Listing as Board, board_numbers}

-- document 01's number of a board
unfoldable pub board_number : Board → ℕ
board_number a = (board_numbers a).0

-- places written, then shown in all; a board concerns no dossier and has no count
unfoldable pub board_answered : Board → List ℕ
board_answered a = board_number a ∷ (board_numbers a).1 ∷ (board_numbers a).2 ∷ []
