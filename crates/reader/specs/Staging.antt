-- What a staging area holds once a reader returns: the rows before the first line at fault, as many as fit. A promise of the readers, not of an accepted dossier,
-- whose rows are all of `data_rows`. Assumes nothing.
use Rattle.std.specs.Prelude.{ℕ, ◌/◌, Bool, not, ◌&&◌, ◌||◌, List, [], ◌∷◌, ltb, length, take}
use Rattle.lists.specs.Logic.{on}
use Rattle.lists.specs.Part.{over}
use Rattle.lists.specs.Rows.{flat}
use Rattle.syntax.specs.Machine.{fault}
use Rattle.turbo_lines.specs.Lines.{lines, short_front}
use Rattle.columns.specs.declared.Table.{Table}
use Rattle.columns.specs.Tables.{row_width, row_of}
use Rattle.reader.specs.Items.{Item, head, row, outside, items}
use Rattle.reader.specs.Rules.{largest, form_bad, is_wrong, owner_bad, faults}

-- a line without a fault of 4, 5 or 6
abbrev pub fine : Table → List ℕ → ℕ → Item → Bool
fine t register sender x = not (form_bad t x) && (not (is_wrong t x) && not (owner_bad t register sender x))

abbrev pub with_row : Table → Item → List (List ℕ) → List (List ℕ)
with_row t (head n ls) rs = rs
with_row t (row n ls l) rs = row_of t ls l ∷ rs

-- the rows before the first line at fault
unfoldable pub rows_up_to : Table → List ℕ → ℕ → List Item → List (List ℕ)
rows_up_to t register sender [] = []
rows_up_to t register sender (x ∷ xs) = on (fine t register sender x) (with_row t x (rows_up_to t register sender xs)) []

-- rows go to the front of the area, as many as fit; its later bytes stay
abbrev pub laid : Table → List (List ℕ) → List ℕ → List ℕ
laid t rs staging = over 0 (flat (take (length staging / row_width t) rs)) staging

-- what the reader of the table sees before the first line that is too long
abbrev pub short_items : Table → List ℕ → List Item
short_items t d = items t outside 1 (short_front (lines d))

-- a dossier too long or with a fault of syntax leaves the area as it was
unfoldable pub staged_by : Table → List ℕ → ℕ → List ℕ → List ℕ → List ℕ
staged_by t register sender d staging = on (ltb largest (length d) || faults (fault d)) staging (laid t (rows_up_to t register sender (short_items t d)) staging)
