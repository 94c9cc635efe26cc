-- What a line of the script asks. Assumes nothing.
use Rattle.std.specs.Prelude.{ℕ, ◌+◌, min, Bool, true, false, List, [], ◌∷◌, eqb, ltb, length, Option, unwrap_or}
use Rattle.lists.specs.Logic.{on, first_held}
use Rattle.lists.specs.Text.{bytes}
use Rattle.turbo.specs.Split.{fields}
use Rattle.turbo_labels.specs.Columns.{column_of}
use Rattle.field_types.specs.Digits.{numeral}
use Rattle.field_types.specs.Times.{clock}
use Rattle.field_types.specs.Dates.{date}
use Rattle.script_text.specs.Rules.{word_at}
use Rattle.boards_orders.specs.declared.Order.{Order}
use Rattle.boards_orders.specs.declared.Order.TheVariants.{Nothing, Open, Register, Message, Withdraw, Board, Messages, Registered, Save, Load, Parts, Bad}

-- the commands; a command is its place among them, and 10 is none
abbrev pub command_names : List ℕ
command_names = bytes "OPEN|REGISTER|MESSAGE|WITHDRAW|BOARD|MESSAGES|REGISTERED|SAVE|LOAD|PARTS"

unfoldable pub command_of : List ℕ → ℕ
command_of w = column_of w (fields command_names)

-- why a line is not done
abbrev pub no-day : ℕ
no-day = 3

abbrev pub no_sender : ℕ
no_sender = 4

abbrev pub not_to_register : ℕ
not_to_register = 5

abbrev pub no-number : ℕ
no-number = 6

abbrev pub no_owner : ℕ
no_owner = 7

abbrev pub no_date : ℕ
no_date = 8

abbrev pub no_time : ℕ
no_time = 9

abbrev pub no_horizon : ℕ
no_horizon = 10

abbrev pub no_places : ℕ
no_places = 11

abbrev pub no_size : ℕ
no_size = 13

abbrev pub no_form : ℕ
no_form = 14

-- command c wants other words, or is none
abbrev pub wants : ℕ → Order
wants c = Bad 0 (15 + min c 10)

-- what is no number is out of every range
abbrev pub no_number : ℕ
no_number = 4294967295

abbrev pub or_none : Option ℕ → ℕ
or_none n = unwrap_or n no_number

-- word k as a number of at most nine digits
unfoldable pub number_word : ℕ → List ℕ → ℕ
number_word k line = or_none (numeral 9 (word_at k line))

-- a board's date, and its time, hours to 31
unfoldable pub date_word : List ℕ → ℕ
date_word line = or_none (date (word_at 3 line))

unfoldable pub time_word : List ℕ → ℕ
time_word line = or_none (clock 31 (word_at 4 line))

-- of the faults that hold the first is given; where none holds, what is asked
unfoldable pub register_order : List ℕ → Order
register_order line =
    first_held
    ((eqb (number_word 1 line) 0, Bad 1 not_to_register) ∷ (ltb 255 (number_word 1 line), Bad 1 not_to_register) ∷ (ltb 10 (length (word_at 2 line)), Bad 2 no_owner) ∷ [])
    (Register (number_word 1 line))

-- the form that word k states, and the old one where nothing is said; whether it is a known one is the call's to answer
unfoldable pub form_at : ℕ → List ℕ → ℕ
form_at k line = on (eqb (length (word_at k line)) 0) 0 (number_word k line)

unfoldable pub message_order : List ℕ → Order
message_order line =
    first_held
    ((ltb 255 (number_word 1 line), Bad 1 no_sender) ∷ (eqb (form_at 3 line) no_number, Bad 3 no_form) ∷ [])
    (Message (number_word 1 line) (form_at 3 line))

-- a part has from one byte to as many as a dossier may have
unfoldable pub parts_order : List ℕ → Order
parts_order line =
    first_held
    ((ltb 255 (number_word 1 line), Bad 1 no_sender)
    ∷ (eqb (number_word 3 line) 0, Bad 3 no_size)
    ∷ (ltb 65536 (number_word 3 line), Bad 3 no_size)
    ∷ (eqb (form_at 4 line) no_number, Bad 4 no_form)
    ∷ [])
    (Parts (number_word 1 line) (number_word 3 line) (form_at 4 line))

unfoldable pub withdraw_order : List ℕ → Order
withdraw_order line =
    first_held
    ((eqb (number_word 1 line) no_number, Bad 1 no-number) ∷ (ltb 255 (number_word 2 line), Bad 2 no_sender) ∷ [])
    (Withdraw (number_word 1 line) (number_word 2 line))

-- how many lines of a board at most; all where nothing is said
unfoldable pub places_at : List ℕ → ℕ
places_at line = on (eqb (length (word_at 6 line)) 0) 2048 (number_word 6 line)

unfoldable pub board_order : List ℕ → Order
board_order line =
    first_held
    ((eqb (date_word line) no_number, Bad 3 no_date)
    ∷ (eqb (time_word line) no_number, Bad 4 no_time)
    ∷ (eqb (number_word 5 line) no_number, Bad 5 no_horizon)
    ∷ (ltb 2048 (places_at line), Bad 6 no_places)
    ∷ [])
    (Board (date_word line) (time_word line) (number_word 5 line) (places_at line))

-- the line has a word k and no word n
unfoldable pub has_words : ℕ → ℕ → List ℕ → Bool
has_words k n line = on (eqb (length (word_at k line)) 0) false (eqb (length (word_at n line)) 0)

-- the line has as many words as its command wants: two or three, five or six, none, one, three or four, or two
unfoldable pub is_whole : ℕ → List ℕ → Bool
is_whole c line =
    first_held
    ((eqb c 2, has_words 2 4 line)
    ∷ (eqb c 4, has_words 5 7 line)
    ∷ (eqb c 5, has_words 0 1 line)
    ∷ (eqb c 6, has_words 0 1 line)
    ∷ (eqb c 7, has_words 1 2 line)
    ∷ (eqb c 8, has_words 1 2 line)
    ∷ (eqb c 9, has_words 3 5 line)
    ∷ [])
    (has_words 2 3 line)

-- the command is about the day that is open
unfoldable pub is_of_day : ℕ → Bool
is_of_day c = first_held ((eqb c 2, true) ∷ (eqb c 3, true) ∷ (eqb c 4, true) ∷ (eqb c 5, true) ∷ (eqb c 7, true) ∷ (eqb c 9, true) ∷ []) false

-- by the command
unfoldable pub order_by : ℕ → List ℕ → Order
order_by c line =
    first_held
    ((eqb c 0, Open)
    ∷ (eqb c 1, register_order line)
    ∷ (eqb c 2, message_order line)
    ∷ (eqb c 3, withdraw_order line)
    ∷ (eqb c 4, board_order line)
    ∷ (eqb c 5, Messages)
    ∷ (eqb c 6, Registered)
    ∷ (eqb c 7, Save)
    ∷ (eqb c 8, Load)
    ∷ (eqb c 9, parts_order line)
    ∷ [])
    (wants c)

-- by the command and its words, with a day open or not
unfoldable pub commanded : Bool → ℕ → List ℕ → Order
commanded day c line = on (is_whole c line) (on day (order_by c line) (on (is_of_day c) (Bad 0 no-day) (order_by c line))) (wants c)

-- an empty line, and a comment, by its first word
abbrev pub is_silent : List ℕ → Bool
is_silent [] = true
is_silent (b ∷ w) = eqb b 35

unfoldable pub order_in : Bool → List ℕ → Order
order_in day line = on (is_silent (word_at 0 line)) Nothing (commanded day (command_of (word_at 0 line)) line)
