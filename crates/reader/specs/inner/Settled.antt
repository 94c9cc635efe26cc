-- The answer by what is kept of the lines: the first line of each kind of fault, 0 for none, and a count of rows. Assumes nothing.
use Rattle.std.specs.Prelude.{ℕ, List, [], ◌∷◌, Ok, Err}
use Rattle.lists.specs.Logic.{first_held}
use Rattle.turbo_lines.specs.Lines.{lines, first_long}
use Rattle.columns.specs.declared.Table.{Table}
use Rattle.reader.specs.declared.Fault.TheVariants.{Long, Form, Field, Owner}
use Rattle.reader.specs.Rules.{Reading, is_line, answer_to, items_of}

abbrev pub answered_by : ℕ → ℕ → ℕ → ℕ → ℕ → Reading
answered_by form line column owner rows = first_held ((is_line form, Err (Form form)) ∷ (is_line line, Err (Field line column)) ∷ (is_line owner, Err (Owner owner)) ∷ []) (Ok rows)

-- the first line that is too long, 0 for none, goes before what else is answered
abbrev pub unless_long : ℕ → Reading → Reading
unless_long long next = first_held ((is_line long, Err (Long long)) ∷ []) next

-- the answer to the lines of a dossier within its size and well formed
abbrev pub lines_answer : Table → List ℕ → ℕ → List ℕ → Reading
lines_answer t register sender d = unless_long (first_long 1 (lines d)) (answer_to t register sender (items_of t d))
