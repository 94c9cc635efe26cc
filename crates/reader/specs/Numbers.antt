-- A reading by document 01's numbers. Assumes nothing.
use Rattle.std.specs.Prelude.{ℕ, List, [], ◌∷◌, ltb, length, Ok, Err}
use Rattle.lists.specs.Logic.{first_held}
use Rattle.syntax.specs.Machine.{fault}
use Rattle.turbo_lines.specs.Lines.{lines, first_long}
use Rattle.columns.specs.declared.Table.{Table}
use Rattle.reader.specs.declared.Fault.TheVariants.{TooLong, Syntax, Long, Form, Field, Owner}
use Rattle.reader.specs.Rules.{Reading, largest, form_bad, is_wrong, owner_bad, first_line, first_column, data_rows, items_of, faults, fault_place, is_line}

-- an answer's number, and the two values it gives besides
abbrev pub reading_numbers : Reading → ℕ × ℕ × ℕ
reading_numbers (Err TooLong) = (2, 0, 0)
reading_numbers (Err (Syntax i)) = (3, i, 0)
reading_numbers (Err (Long l)) = (15, l, 0)
reading_numbers (Err (Form l)) = (4, l, 0)
reading_numbers (Err (Field l c)) = (5, l, c)
reading_numbers (Err (Owner l)) = (6, l, 0)
reading_numbers (Ok n) = (0, n, 0)

-- document 01's table, line 15 behind 3: of the lines 2 to 6 and 15 the first that holds; else 0, and the number of rows
unfoldable pub reading_table : Table → List ℕ → ℕ → List ℕ → ℕ × ℕ × ℕ
reading_table t register sender d =
    first_held
    ((ltb largest (length d), (2, 0, 0))
    ∷ (faults (fault d), (3, fault_place (fault d), 0))
    ∷ (is_line (first_long 1 (lines d)), (15, first_long 1 (lines d), 0))
    ∷ (is_line (first_line (form_bad t) (items_of t d)), (4, first_line (form_bad t) (items_of t d), 0))
    ∷ (is_line (first_line (is_wrong t) (items_of t d)), (5, first_line (is_wrong t) (items_of t d), first_column t (items_of t d)))
    ∷ (is_line (first_line (owner_bad t register sender) (items_of t d)), (6, first_line (owner_bad t register sender) (items_of t d), 0))
    ∷ [])
    (0, length (data_rows t (items_of t d)), 0)
