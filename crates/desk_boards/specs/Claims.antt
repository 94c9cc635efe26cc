-- What is certain of the numbers of a board's answer, for any table, question and places. Assumes nothing.
use Rattle.std.specs.Prelude.{ℕ, ◌≡◌, List, [], ◌∷◌, ◌⊎◌, length, get_or}
use Rattle.board_show.specs.Ask.{Question}
use Rattle.board.specs.Rules.{Listing as Board, board_leaves}
use Rattle.desk_boards.specs.Answered.{board_number, board_answered}

-- it is three numbers, and the one returned is the first
abbrev pub NumbersOfBoard : Type 0
NumbersOfBoard = (b : Board) → (length (board_answered b) ≡ 3) × (get_or (board_answered b) 0 0 ≡ board_number b)

-- a board that is refused has its number and twice 0, and leaves every place
abbrev pub BoardGivesBack : Type 0
BoardGivesBack =
    (q : Question) (table : List ℕ) (rows : ℕ) (places : List ℕ)
    → let b = board_leaves q table rows places in
    (board_number b.answer ≡ 0 → ⊥)
    → (board_answered b.answer ≡ board_number b.answer ∷ 0 ∷ 0 ∷ []) × (b.places ≡ places)

-- the number returned is one of document 01's list for a board
abbrev pub BoardNumbersListed : Type 0
BoardNumbersListed = (b : Board) → (board_number b ≡ 0) ⊎ (board_number b ≡ 1) ⊎ (board_number b ≡ 13)

-- all of these
abbrev pub All : Type 0
All = NumbersOfBoard × BoardGivesBack × BoardNumbersListed
