-- All that is claimed of a board's numbers holds. Assumes nothing.
use Prim.Native.Nat.{ℕ}
use mathlib.Core.Path.{◌≡◌, refl}
use mathlib.Core.Bool.{Bool, true, false}
use mathlib.Core.List.{List, [], ◌∷◌}
use mathlib.Core.Logic.{inl, inr}
use Rattle.lists.specs.Logic.{on}
use Rattle.table.specs.Rules.{table_sound}
use Rattle.std.specs.Prelude.{Ok, Err}
use Rattle.board.specs.declared.Refusal.TheVariants.{Unsound, OutOfRange}
use Rattle.board_show.specs.Ask.{asks_in_range}
use Rattle.board.specs.Rules.{board_of, board_with, fitted, board_leaves, board_numbers}
use Rattle.desk_boards.specs.Answered.{board_number, board_answered}
use Rattle.desk_boards.specs.Claims.{NumbersOfBoard, BoardGivesBack, BoardNumbersListed, All}

numbers-of-board : NumbersOfBoard
unfolding board_answered
numbers-of-board b = (refl, refl)

board-gives-back : BoardGivesBack
unfolding board_leaves board_number board_answered
board-gives-back q table rows places = go (table_sound rows table) (asks_in_range q) (board_of q table rows)
  where
    go : (s a : Bool) (l : List ℕ)
        → let b = on s (on a (fitted l places) (board_with (Err OutOfRange) places)) (board_with (Err Unsound) places) in
        let ns = board_numbers b.answer in
        (ns.0 ≡ 0 → ⊥)
        → (◌≡◌ {A = List ℕ} (ns.0 ∷ ns.1 ∷ ns.2 ∷ []) (ns.0 ∷ 0 ∷ 0 ∷ []))
        × (b.places ≡ places)
    go true true l h = absurd (h refl)
    go true false l h = (refl, refl)
    go false a l h = (refl, refl)

board-listed : BoardNumbersListed
unfolding board_number
board-listed (Ok l) = inl refl
board-listed (Err Unsound) = inr (inl refl)
board-listed (Err OutOfRange) = inr (inr refl)

pub claims : All
claims = (numbers-of-board, board-gives-back, board-listed)
