-- The register: pairs of a sender and an owner whose passages it may send. Assumes nothing.
use Rattle.std.specs.Prelude.{ℕ, ◌+◌, ◌*◌, ◌/◌, ◌%◌, Bool, true, false, not, ◌&&◌, ◌||◌, List, [], ◌∷◌, eqb, leb, length}
use Rattle.lists.specs.Text.{same}
use Rattle.lists.specs.Rows.{rows_of}
use Rattle.passage.specs.Layout.{text_wide, owner_of}
use Rattle.columns.specs.declared.Table.{Table}
use Rattle.columns.specs.declared.Table.TheVariants as Tables

-- a pair: one byte of sender, then the owner
abbrev pub pair_wide : ℕ
pair_wide = 1 + text_wide

-- a register has at most so many
abbrev pub most_pairs : ℕ
most_pairs = 64

-- the register's whole pairs
abbrev pub pairs : List ℕ → List (List ℕ)
pairs register = rows_of pair_wide (length register / pair_wide) register

-- one of the pairs is of this sender and this owner
unfoldable pub has_pair : List (List ℕ) → ℕ → List ℕ → Bool
has_pair [] sender owner = false
has_pair (p ∷ ps) sender owner = same p (sender ∷ owner) || has_pair ps sender owner

-- the sender is registered for the owner; sender 0, the desk, for none
unfoldable pub grants : List ℕ → ℕ → List ℕ → Bool
grants register sender owner = not (eqb sender 0) && has_pair (pairs register) sender owner

-- whole pairs, and not too many
unfoldable pub register_sound : List ℕ → Bool
register_sound register = eqb (length register % pair_wide) 0 && leb (length register) (most_pairs * pair_wide)

-- whether the sender may send this row of a table: of a message, where it is registered for the row's owner; planning and calendar have no sender
abbrev pub may_send : Table → List ℕ → ℕ → List ℕ → Bool
may_send (Tables.Message form) register sender row = grants register sender (owner_of row)
may_send Tables.Planning register sender row = true
may_send Tables.Calendar register sender row = true
