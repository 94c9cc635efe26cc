use Prim.Native.Nat.{ℕ}
use mathlib.Core.Path.{◌≡◌, refl}
use mathlib.Core.Bool.{true, false}
use mathlib.Core.List.{List}
use borrow.Author.Tests.{eq-eqb, ne_eqb}
use Rattle.columns.specs.declared.Table.{Table}
use Rattle.std.specs.Prelude.{Result, Ok, Err}
use Rattle.reader_step.specs.declared.State.{State}
use Rattle.reader_step.specs.Step.{moved, mistyped, disowned, one_row_more, row_step, staged, row_staged}
use Rattle.register.specs.Register.{may_send}

-- Which case of a row's step holds. Assumes nothing.

module _ (t : Table) (register : List ℕ) (sender : ℕ) (s : State) (st : List ℕ) where
  pub row-wrong : {r : Result (List ℕ) ℕ} {c : ℕ} → r ≡ Err c → (mistyped s c ≡ row_step t register sender s r) × (st ≡ row_staged t register sender s r st)
  unfolding row_step row_staged
  row-wrong e = rw e (refl, refl)

  module _ {r : Result (List ℕ) ℕ} {row : List ℕ} (typed : r ≡ Ok row) where
    pub row_before : (s.owner ≡ 0 → ⊥) → (moved s s.place ≡ row_step t register sender s r) × (st ≡ row_staged t register sender s r st)
    unfolding row_step row_staged
    row_before h = rw (typed, ne_eqb s.owner 0 h) (refl, refl)

    module _ (first : s.owner ≡ 0) where
      pub row-sent : may_send t register sender row ≡ true → (one_row_more s ≡ row_step t register sender s r) × (staged t s.rows row st ≡ row_staged t register sender s r st)
      unfolding row_step row_staged
      row-sent h = rw (typed, eq-eqb s.owner 0 first, h) (refl, refl)

      pub row-refused : may_send t register sender row ≡ false → (disowned s ≡ row_step t register sender s r) × (st ≡ row_staged t register sender s r st)
      unfolding row_step row_staged
      row-refused h = rw (typed, eq-eqb s.owner 0 first, h) (refl, refl)
