use Prim.Native.Nat.{ℕ}
use mathlib.Core.Path.{◌≡◌, refl}
use mathlib.Core.Bool.{Bool, true, false, not, ◌&&◌}
use mathlib.Core.List.{List, [], ◌∷◌}
use borrow.Author.Tests.{eqb-true}
use lib.Dec.{eqb}
use lib.ListN.{length}
use Rattle.lists.specs.Logic.{on}
use Rattle.lists.specs.Each.{Each}
use Rattle.lists.specs.Rows.{Wide}
use Rattle.lists.proofs.LogicLaws.{and-false}
use Rattle.columns.specs.declared.Table.{Table}
use Rattle.columns.specs.Tables.{row_of, row_width, wrong_column}
use Rattle.rows.proofs.RowLaws.{row-length}
use Rattle.reader.specs.Items.{Item, head, row}
use Rattle.reader.specs.Rules.{form_bad, owner_bad}
use Rattle.reader.specs.Staging.{fine, rows_up_to}

-- What holds of the row of each line without a wrong column holds of every row that is staged. Assumes nothing.

each_on : (P : List ℕ → Type 0) (b : Bool) (rs : List (List ℕ)) → Each P rs → Each P (on b rs [])
each_on P true rs h = h
each_on P false rs h = tt

module _ (t : Table) (P : List ℕ → Type 0) (holds : (ls : List (List ℕ)) (l : List ℕ) → wrong_column t ls l ≡ 0 → P (row_of t ls l)) (register : List ℕ) (sender : ℕ) where
  pub rows-each : (xs : List Item) → Each P (rows_up_to t register sender xs)
  unfolding rows_up_to
  rows-each [] = tt
  rows-each (head n ls ∷ xs) = each_on P (fine t register sender (head n ls)) (rows_up_to t register sender xs) (rows-each xs)
  rows-each (row n ls l ∷ xs) = go (eqb (wrong_column t ls l) 0) refl (rows-each xs)
    where
      go : (b : Bool) → eqb (wrong_column t ls l) 0 ≡ b → Each P (rows_up_to t register sender xs)
          → Each P (on (not (form_bad t (row n ls l)) && (not (not b) && not (owner_bad t register sender (row n ls l)))) (row_of t ls l ∷ rows_up_to t register sender xs) [])
      go true e h = each_on P (not (form_bad t (row n ls l)) && (true && not (owner_bad t register sender (row n ls l)))) (row_of t ls l ∷ rows_up_to t register sender xs) (holds ls l (eqb-true _ _ e), h)
      go false e h = rw (and-false (not (form_bad t (row n ls l)))) tt

-- every row has its table's width
pub rows-wide : (t : Table) (register : List ℕ) (sender : ℕ) (xs : List Item) → Wide (row_width t) (rows_up_to t register sender xs)
rows-wide t = rows-each t (λ (r : List ℕ). length r ≡ row_width t) (row-length t)
