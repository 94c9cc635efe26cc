-- What a reader answers, as document 01's table says, with line 15 behind line 3: of the lines 2 to 6 and 15 the first that holds, each looked for over the whole dossier. Assumes nothing.
use Rattle.std.specs.Prelude.{ℕ, Bool, true, false, not, List, [], ◌∷◌, eqb, ltb, length, Result, Ok, Err, ⊤}
use Rattle.lists.specs.Logic.{on, first_held}
use Rattle.syntax.specs.Machine.{fault}
use Rattle.turbo.specs.Split.{fields}
use Rattle.turbo_lines.specs.Lines.{lines, first_long}
use Rattle.columns.specs.declared.Table.{Table}
use Rattle.columns.specs.Tables.{row_of, wrong_column, label_fault}
use Rattle.reader.specs.declared.Fault.{Fault}
use Rattle.reader.specs.declared.Fault.TheVariants.{TooLong, Syntax, Long, Form, Field, Owner}
use Rattle.reader.specs.Items.{Item, head, row, outside, items}
use Rattle.register.specs.Register.{may_send}

-- the most bytes of a dossier
abbrev pub largest : ℕ
largest = 65536

abbrev pub line_number : Item → ℕ
line_number (head n ls) = n
line_number (row n ls l) = n

-- 4: a wanted name twice, or missing and not optional, or a field count unlike the label line's
abbrev pub form_bad : Table → Item → Bool
form_bad t (head n ls) = label_fault t ls
form_bad t (row n ls l) = not (eqb (length (fields l)) (length ls))

-- 5: the column of the first wanted field outside its type, 0 for none
abbrev pub wrong_at : Table → Item → ℕ
wrong_at t (head n ls) = 0
wrong_at t (row n ls l) = wrong_column t ls l

-- 6: the row's owner is not registered for the sender
abbrev pub owner_bad : Table → List ℕ → ℕ → Item → Bool
owner_bad t register sender (head n ls) = false
owner_bad t register sender (row n ls l) = not (may_send t register sender (row_of t ls l))

-- ---- the first line of each, 0 for none: lines count from 1

unfoldable pub first_line : (Item → Bool) → List Item → ℕ
first_line bad [] = 0
first_line bad (x ∷ xs) = on (bad x) (line_number x) (first_line bad xs)

abbrev pub is_wrong : Table → Item → Bool
is_wrong t x = not (eqb (wrong_at t x) 0)

-- the column in that line
unfoldable pub first_column : Table → List Item → ℕ
first_column t [] = 0
first_column t (x ∷ xs) = on (is_wrong t x) (wrong_at t x) (first_column t xs)

-- ---- the rows

-- the row of each data line, in order
unfoldable pub data_rows : Table → List Item → List (List ℕ)
data_rows t [] = []
data_rows t (head n ls ∷ xs) = data_rows t xs
data_rows t (row n ls l ∷ xs) = row_of t ls l ∷ data_rows t xs

-- ---- the answer

-- how many rows, or the fault for which the dossier is refused
abbrev pub Reading : Type 0
Reading = Result ℕ Fault

-- the items of a whole dossier
abbrev pub items_of : Table → List ℕ → List Item
items_of t d = items t outside 1 (lines d)

-- whether the bytes fault, and where
abbrev pub faults : Result ⊤ ℕ → Bool
faults (Ok u) = false
faults (Err i) = true

abbrev pub fault_place : Result ⊤ ℕ → ℕ
fault_place (Ok u) = 0
fault_place (Err i) = i

-- there is such a line
abbrev pub is_line : ℕ → Bool
is_line n = not (eqb n 0)

-- lines 4 to 6 of the table, and the rows where none holds
unfoldable pub answer_to : Table → List ℕ → ℕ → List Item → Reading
answer_to t register sender xs =
    first_held
    ((is_line (first_line (form_bad t) xs), Err (Form (first_line (form_bad t) xs)))
    ∷ (is_line (first_line (is_wrong t) xs), Err (Field (first_line (is_wrong t) xs) (first_column t xs)))
    ∷ (is_line (first_line (owner_bad t register sender) xs), Err (Owner (first_line (owner_bad t register sender) xs)))
    ∷ [])
    (Ok (length (data_rows t xs)))

-- lines 2, 3 and 15 before them; 15 is of any line, whatever it is to the table
unfoldable pub reading_of : Table → List ℕ → ℕ → List ℕ → Reading
reading_of t register sender d =
    first_held
    ((ltb largest (length d), Err TooLong)
    ∷ (faults (fault d), Err (Syntax (fault_place (fault d))))
    ∷ (is_line (first_long 1 (lines d)), Err (Long (first_long 1 (lines d))))
    ∷ [])
    (answer_to t register sender (items_of t d))
