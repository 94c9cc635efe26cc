-- What a line of the script leaves: what is held, and the lent register, book and table. Assumes nothing.
use Rattle.std.specs.Prelude.{ℕ, ◌≡◌, ◌⊎◌, List}
use Rattle.script_text.specs.Rules.{word_at}
use Rattle.boards_deeds.specs.Deeds.{State, not_done, enrolled, opened_by, sent, withdrawn_by, asked_by, loaded_from}
use Rattle.boards_orders.specs.declared.Order.{Order}
use Rattle.boards_orders.specs.declared.Order.TheVariants.{Nothing, Open, Register, Message, Withdraw, Board, Messages, Registered, Save, Load, Parts, Bad}

-- a file cannot be read, or it gave some bytes: which ones no promise can say
abbrev pub Opens : State → State → Type 0
Opens s t = (t ≡ not_done s) ⊎ ((planning : List ℕ) × (calendar : List ℕ) × (t ≡ opened_by planning calendar s))

-- whole or in parts, of whatever size, in the form that is stated: the rule of the one call
abbrev pub Sends : ℕ → ℕ → State → State → Type 0
Sends sender form s t = (t ≡ not_done s) ⊎ ((dossier : List ℕ) × (t ≡ sent dossier sender form s))

abbrev pub Loads : State → State → Type 0
Loads s t = (t ≡ not_done s) ⊎ ((file : List ℕ) × (t ≡ loaded_from file s))

-- from s the line that asks this leaves t
abbrev pub LineLeaves : Order → List ℕ → State → State → Type 0
LineLeaves Nothing line s t = t ≡ s
LineLeaves Open line s t = Opens s t
LineLeaves (Register sender) line s t = t ≡ enrolled sender (word_at 2 line) s
LineLeaves (Message sender form) line s t = Sends sender form s t
LineLeaves (Withdraw n sender) line s t = t ≡ withdrawn_by n sender s
LineLeaves (Board date second horizon most) line s t = t ≡ asked_by line date second horizon s
LineLeaves Messages line s t = t ≡ s
LineLeaves Registered line s t = t ≡ s
LineLeaves Save line s t = (t ≡ s) ⊎ (t ≡ not_done s)
LineLeaves Load line s t = Loads s t
LineLeaves (Parts sender size form) line s t = Sends sender form s t
LineLeaves (Bad k why) line s t = t ≡ not_done s
