-- What is certain of what a line asks. `proofs/Claims.antt` proves `All`. Assumes nothing.
use Rattle.std.specs.Prelude.{ℕ, ◌≤◌, ◌<◌, ◌≡◌, Bool, true, false, List, [], ◌∷◌, eqb, ltb, length}
use Rattle.lists.specs.Logic.{on, first_held}
use Rattle.script_text.specs.Rules.{word_at}
use Rattle.boards_orders.specs.declared.Order.{Order}
use Rattle.boards_orders.specs.declared.Order.TheVariants.{Nothing, Open, Register, Message, Withdraw, Board, Messages, Registered, Save, Load, Parts, Bad}
use Rattle.boards_orders.specs.Orders.{no_sender, no_size, number_word, register_order, message_order, parts_order, board_order, order_in}

-- a sender is registered from 1 to 255, for an owner of at most ten bytes
abbrev pub RegisterInRange : Type 0
RegisterInRange = (line : List ℕ) (n : ℕ) → register_order line ≡ Register n → (0 < n) × (n ≤ 255) × (length (word_at 2 line) ≤ 10)

-- a part has from 1 to 65,536 bytes
abbrev pub PartsInRange : Type 0
PartsInRange = (line : List ℕ) (n size form : ℕ) → parts_order line ≡ Parts n size form → (n ≤ 255) × (0 < size) × (size ≤ 65536)

-- where no form is stated, the line asks what it asked before there was one, in the old form
abbrev pub FormLeftOutIsOld : Type 0
FormLeftOutIsOld =
    (line : List ℕ)
    → (length (word_at 3 line) ≡ 0 → message_order line ≡ on (ltb 255 (number_word 1 line)) (Bad 1 no_sender) (Message (number_word 1 line) 0))
    × (length (word_at 4 line) ≡ 0
    → parts_order line
    ≡ first_held
    ((ltb 255 (number_word 1 line), Bad 1 no_sender) ∷ (eqb (number_word 3 line) 0, Bad 3 no_size) ∷ (ltb 65536 (number_word 3 line), Bad 3 no_size) ∷ [])
    (Parts (number_word 1 line) (number_word 3 line) 0))

-- a form that is stated is handed on as it stands, known or not
abbrev pub FormAsStated : Type 0
FormAsStated =
    (line : List ℕ) (n size form : ℕ)
    → (message_order line ≡ Message n form → 0 < length (word_at 3 line) → form ≡ number_word 3 line)
    × (parts_order line ≡ Parts n size form → 0 < length (word_at 4 line) → form ≡ number_word 4 line)

-- a board has at most 2,048 lines
abbrev pub BoardInRange : Type 0
BoardInRange = (line : List ℕ) (date second horizon most : ℕ) → board_order line ≡ Board date second horizon most → most ≤ 2048

-- what is asked is about the day that is open
abbrev pub asks_day : Order → Bool
asks_day Nothing = false
asks_day Open = false
asks_day (Register n) = false
asks_day (Message n form) = true
asks_day (Withdraw m n) = true
asks_day (Board d t h n) = true
asks_day Messages = true
asks_day Registered = false
asks_day Save = true
asks_day Load = false
asks_day (Parts n size form) = true
asks_day (Bad k why) = false

-- while no day is open, no line asks anything of one
abbrev pub NoDayNoneAsked : Type 0
NoDayNoneAsked = (line : List ℕ) → asks_day (order_in false line) ≡ false

-- all of these
abbrev pub All : Type 0
All = RegisterInRange × PartsInRange × FormLeftOutIsOld × FormAsStated × BoardInRange × NoDayNoneAsked
