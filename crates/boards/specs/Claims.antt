-- What is certain of a script's lines. `proofs/Claims.antt` proves `All`. Assumes nothing.
use Rattle.std.specs.Prelude.{ℕ, ◌≡◌, Bool, false, List, ◌↔◌}
use Rattle.boards_orders.specs.declared.Order.TheVariants.{Message, Board, Messages, Registered, Save, Parts, Bad}
use Rattle.boards_orders.specs.Orders.{order_in}
use Rattle.boards_saved.specs.Saved.{is_day}
use Rattle.boards_deeds.specs.Deeds.{State, loaded_from}
use Rattle.boards.specs.Leaves.{LineLeaves}

-- register, book, table, and what is held of them are as they were
pub record Same (s t : State) : Type 0 where
  pub register : t.register ≡ s.register
  pub book : t.book ≡ s.book
  pub table : t.table ≡ s.table
  pub counts : t.held.counts ≡ s.held.counts
  pub pairs : t.held.register ≡ s.held.register
  pub day : t.held.day ≡ s.held.day

-- a line that is not done changes nothing
abbrev pub BadChangesNothing : Type 0
BadChangesNothing = (day : Bool) (line : List ℕ) (k why : ℕ) (s t : State) → order_in day line ≡ Bad k why → LineLeaves (order_in day line) line s t → Same s t

-- nor does one that asks for a board, shown or refused
abbrev pub BoardChangesNothing : Type 0
BoardChangesNothing =
    (day : Bool) (line : List ℕ) (date second horizon most : ℕ) (s t : State)
    → order_in day line ≡ Board date second horizon most
    → LineLeaves (order_in day line) line s t
    → Same s t

-- nor one that lists messages or pairs
abbrev pub ListsChangeNothing : Type 0
ListsChangeNothing =
    (day : Bool) (line : List ℕ) (s t : State)
    → LineLeaves (order_in day line) line s t
    → (order_in day line ≡ Messages → Same s t) × (order_in day line ≡ Registered → Same s t)

-- nor one that saves the day, written or not
abbrev pub SaveChangesNothing : Type 0
SaveChangesNothing = (day : Bool) (line : List ℕ) (s t : State) → order_in day line ≡ Save → LineLeaves (order_in day line) line s t → Same s t

-- a file that holds no sound day changes nothing
abbrev pub UnsoundFileChangesNothing : Type 0
UnsoundFileChangesNothing = (file : List ℕ) (s : State) → is_day file ≡ false → Same s (loaded_from file s)

-- what a message fed in parts may leave, of whatever size, is what a whole message in the same form may leave: the rule of the one call on the bytes that the file gave
abbrev pub PartsAsMessage : Type 0
PartsAsMessage = (sender size form : ℕ) (line : List ℕ) (s t : State) → LineLeaves (Parts sender size form) line s t ↔ LineLeaves (Message sender form) line s t

-- all of these
abbrev pub All : Type 0
All = BadChangesNothing × BoardChangesNothing × ListsChangeNothing × SaveChangesNothing × UnsoundFileChangesNothing × PartsAsMessage
