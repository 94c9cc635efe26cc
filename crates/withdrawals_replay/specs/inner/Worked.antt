-- A slot worked out from the book: it begins with the plan's row, and updates change it; and the keys that entries name. Assumes nothing.
use Rattle.std.specs.Prelude.{ℕ, ◌-◌, List, [], ◌∷◌, ◌++◌, replicate, ◌<◌, length, get_or}
use Rattle.lists.specs.Logic.{on}
use Rattle.lists.specs.Text.{same}
use Rattle.passage.specs.Layout.{key_wide, row_wide, key_of}
use Rattle.keys.specs.Sorted.{get}
use Rattle.update.specs.Rule.{row_rule}
use Rattle.sorting.specs.Rules.{key_at, keys_of}
use Rattle.book.specs.Entries.{entry_wide, body_at}
use Rattle.book.specs.Rules.{standing, withdrawn, plan_rows}
use Rattle.withdrawals_replay.specs.inner.Slots.{slot_key, slot_row}

-- the slot of key k with the row r, or with none
unfoldable pub slot_of : List ℕ → List ℕ → List ℕ
slot_of k [] = 0 ∷ k ++ replicate (row_wide - key_wide) 0
slot_of k (b ∷ r) = 1 ∷ b ∷ r

-- ---- a slot worked out from the book

-- it begins with the plan's row, or with none
unfoldable pub begun_slot : List (List ℕ) → List ℕ → List ℕ
begun_slot bodies k = slot_of k (get k (plan_rows bodies))

-- an update of its key changes the row by the row rule
unfoldable pub take_in : List ℕ → List ℕ → List ℕ
take_in u s = on (same (key_of u) (slot_key s)) (1 ∷ row_rule (slot_row s) u) s

-- updates, one after another
unfoldable pub taken_in : List (List ℕ) → List ℕ → List ℕ
taken_in [] s = s
taken_in (u ∷ us) s = taken_in us (take_in u s)

-- all standing updates once message n is withdrawn
unfoldable pub heard_in : ℕ → List (List ℕ) → List ℕ → List ℕ
heard_in n us s = taken_in (standing (withdrawn n us)) s

-- ---- the keys that entries name, by their sorted places

abbrev pub names_at : List ℕ → List ℕ → List (List ℕ)
names_at e places = keys_of (key_at e body_at entry_wide) places

-- each of these places is below n
abbrev pub Below : ℕ → List ℕ → Type 0
Below n js = (i : ℕ) → i < length js → get_or js i 0 < n
