-- Worked examples of a board's numbers. Assumes nothing.
use Rattle.std.specs.Prelude.{◌≡◌, refl, [], ◌∷◌, Err}
use Rattle.board.specs.declared.Refusal.TheVariants.{OutOfRange}
use Rattle.board.specs.Rules.{listing}
use Rattle.desk_boards.specs.Answered.{board_number, board_answered}

-- 8 places written of 12 that are shown
board-cut : board_answered (listing 8 12) ≡ 0 ∷ 8 ∷ 12 ∷ []
unfolding board_number board_answered
board-cut = refl

board-refused : board_answered (Err OutOfRange) ≡ 13 ∷ 0 ∷ 0 ∷ []
unfolding board_number board_answered
board-refused = refl
