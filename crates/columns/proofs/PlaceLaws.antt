-- Which columns may be absent, by their places, and the places of a message's cells in both forms. Assumes nothing.
use mathlib.Core.Path.{◌≡◌, ◌∙◌, refl, sym, ap}
use mathlib.Core.Bool.{Bool, false}
use mathlib.Core.List.{map}
use Prim.Native.Nat.{ℕ, ◌<◌}
use lib.Dec.{T, eqb, leb, eqb→eq}
use lib.ListN.{get_or}
use Rattle.lists.specs.Logic.{on}
use Rattle.clock.proofs.BelowLaws.{all_below, below_at}
use Rattle.columns.specs.declared.Form.{Form}
use Rattle.columns.specs.declared.Form.TheVariants.{Old, New}
use Rattle.columns.specs.declared.Table.{Table}
use Rattle.columns.specs.declared.Table.TheVariants.{Message, Planning, Calendar}
use Rattle.columns.specs.Cell.{width}
use Rattle.columns.specs.Tables.{message_columns, planning_columns, calendar_columns, columns_in}
use Rattle.columns.specs.Layout.{optional_at, widths, offset}
use Rattle.columns.proofs.LayoutLaws.{flag_of, flagged, optional-listed}

-- a test at each place agrees with the columns, below n: computed there once
abbrev flags_agree : Table → (ℕ → Bool) → ℕ → Type 0
flags_agree t f n = T (all_below (λ k. eqb (on (f k) 1 0) (get_or (map flag_of (columns_in t)) k 0)) n)

optional-by : (t : Table) (f : ℕ → Bool) (n : ℕ) → flags_agree t f n → (j : ℕ) → j < n → f j ≡ optional_at t j
optional-by t f n told j h =
    let flags = map flag_of (columns_in t) in
    sym (flagged (f j))
    ∙ ap (λ (m : ℕ). eqb m 1) (eqb→eq (on (f j) 1 0) (get_or flags j 0) (below_at (λ k. eqb (on (f k) 1 0) (get_or flags k 0)) n told j h))
    ∙ optional-listed t j

pub message-optional : (f : Form) (j : ℕ) → j < 16 → leb 13 j ≡ optional_at (Message f) j
unfolding columns_in message_columns
message-optional f j h = optional-by (Message f) (leb 13) 16 tt j h

pub planning-optional : (j : ℕ) → j < 12 → eqb j 11 ≡ optional_at Planning j
unfolding columns_in planning_columns
planning-optional j h = optional-by Planning (λ k. eqb k 11) 12 tt j h

pub calendar-optional : (j : ℕ) → j < 3 → false ≡ optional_at Calendar j
unfolding columns_in calendar_columns
calendar-optional j h = optional-by Calendar (λ k. false) 3 tt j h

-- the cells stand at the same places in both forms
pub message-offset : (f : Form) (j : ℕ) → offset (Message Old) j ≡ offset (Message f) j
unfolding offset widths width columns_in message_columns
message-offset Old j = refl
message-offset New j = refl
