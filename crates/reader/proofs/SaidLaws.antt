-- The rows of an accepted dossier are those that its data lines say. Assumes nothing.
use Prim.Native.Nat.{ℕ}
use mathlib.Core.Path.{◌≡◌, ◌∙◌}
use mathlib.Core.Bool.{false}
use mathlib.Core.List.{List, [], ◌∷◌}
use Rattle.lists.specs.Each.{Each}
use Rattle.turbo_lines.specs.Lines.{lines}
use Rattle.columns.specs.declared.Table.{Table}
use Rattle.columns.specs.Tables.{row_of, wrong_column, label_fault}
use Rattle.rows.proofs.RowLaws.{row-length, row-part}
use Rattle.rows.proofs.UnderLaws.{cell-stands, cell-absent}
use Rattle.reader.specs.Items.{Item, head, row, outside}
use Rattle.reader.specs.Rules.{wrong_at, data_rows, items_of}
use Rattle.reader.specs.Claims.{SaidBy, RowForEach, RowsSayLines}
use Rattle.reader.proofs.AnswerLaws.{accepted}
use Rattle.reader.proofs.RefusalLaws.{Labelled, labelled}

said : (t : Table) (labels : List (List ℕ)) (line : List ℕ) → label_fault t labels ≡ false → wrong_column t labels line ≡ 0 → SaidBy t labels line (row_of t labels line)
said t labels line e w = (
  row-length t labels line w,
  λ j h. (
    λ p s. row-part t labels line w j h ∙ cell-stands t labels e line j h p s,
    λ f. row-part t labels line w j h ∙ cell-absent t labels e line j h f,
  ),
)

each-said : (t : Table) (xs : List Item) → Each (Labelled t) xs → Each (λ (x : Item). wrong_at t x ≡ 0) xs → RowForEach t xs (data_rows t xs)
unfolding data_rows
each-said t [] e w = tt
each-said t (head n ls ∷ xs) e w = each-said t xs e.1 w.1
each-said t (row n ls l ∷ xs) e w = (said t ls l e.0 w.0, each-said t xs e.1 w.1)

pub rows-say-lines : RowsSayLines
rows-say-lines t register sender d n e =
    let a = (accepted t register sender d).0 (n, e) in
    each-said t (items_of t d) (labelled t outside 1 (lines d) tt a.3) a.4
