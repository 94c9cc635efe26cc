-- What the ways through a line come to. Assumes nothing.
use mathlib.Core.Path.{◌≡◌, sym, subst}
use mathlib.Core.List.{List}
use Prim.Native.Nat.{ℕ}
use Rattle.boards_deeds.specs.declared.Held.{Held}
use Rattle.boards_deeds.specs.Deeds.{State, state, next_line}
use Rattle.boards_orders.specs.declared.Order.{Order}
use Rattle.boards.specs.Leaves.{LineLeaves}

-- ---- by what is asked

pub leaves_by : (o o' : Order) (line : List ℕ) (s t : State) → o ≡ o' → LineLeaves o' line s t → LineLeaves o line s t
leaves_by o o' line s t e p = subst (λ (x : Order). LineLeaves x line s t) (sym e) p

-- a line more, and what it asks
pub leaves-line : (o o' : Order) (line : List ℕ) (h n : Held) (r b t : List ℕ) (u : State)
    → o ≡ o'
    → n ≡ next_line h
    → LineLeaves o line (state n r b t) u
    → LineLeaves o' line (state (next_line h) r b t) u
leaves-line o o' line h n r b t u e f p =
    subst (λ (x : Held). LineLeaves o' line (state x r b t) u) f (subst (λ (x : Order). LineLeaves x line (state n r b t) u) e p)
