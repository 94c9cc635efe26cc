-- Numbers told of a board are told of what the board promised. Assumes nothing.
use Prim.Native.Nat.{ℕ}
use mathlib.Core.Path.{◌≡◌, ap, ◌∙◌}
use mathlib.Core.List.{List, [], ◌∷◌}
use Rattle.board.specs.Rules.{Listing, Board, board_with, board_numbers}
use Rattle.desk_boards.specs.Answered.{board_number, board_answered}

pub board-written : (o a : Listing) (r : ℕ) (l : List ℕ) → o ≡ a
    → (r ≡ (board_numbers a).0) × (l ≡ (board_numbers a).0 ∷ (board_numbers a).1 ∷ (board_numbers a).2 ∷ [])
    → (r ≡ board_number o) × (l ≡ board_answered o)
unfolding board_number board_answered
board-written o a r l e p = rw e p

-- P is what the board promised besides
pub of-board : {P : Type 0} (a : Listing) (b : Board) (r : ℕ) (l places : List ℕ)
    → (r ≡ board_number a) × (l ≡ board_answered a) → (board_with a places ≡ b) × P → (r ≡ board_number b.answer) × ((l ≡ board_answered b.answer) × (places ≡ b.places))
of-board a b r l places said called =
    let e : a ≡ b.answer = ap (λ (x : Board). x.answer) called.0 in
    (said.0 ∙ ap board_number e, (said.1 ∙ ap board_answered e, ap (λ (x : Board). x.places) called.0))
