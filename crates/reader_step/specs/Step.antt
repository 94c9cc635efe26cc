-- One line at a time: what the reader keeps of the lines so far, and what a line changes in it. Assumes nothing.
use Rattle.std.specs.Prelude.{ℕ, ◌+◌, ◌*◌, ◌≡◌, List, eqb, leb, length, take, Result, Ok, Err}
use Rattle.lists.specs.Logic.{on}
use Rattle.lists.specs.Text.{same}
use Rattle.lists.specs.Part.{over}
use Rattle.turbo_lines.specs.declared.Mark.{Mark}
use Rattle.turbo_lines.specs.declared.Mark.TheVariants as Marks
use Rattle.turbo.specs.Split.{until, fields}
use Rattle.turbo_lines.specs.Lines.{mark_of, after_mark}
use Rattle.columns.specs.declared.Table.{Table}
use Rattle.columns.specs.Tables.{table_name, row_width}
use Rattle.register.specs.Register.{may_send}
use Rattle.rows.specs.declared.Shape.{Shape}
use Rattle.rows.specs.Shape.{no_shape, shape_of}
use Rattle.rows.specs.Reading.{read_by}
use Rattle.reader_step.specs.declared.Place.{Place}
use Rattle.reader_step.specs.declared.Place.TheVariants.{Outside, Awaiting, Under}
use Rattle.reader_step.specs.declared.State.{State}
use Rattle.reader_step.specs.Place.{is_awaiting, is_under}

-- the state after a line that changes only the place
abbrev pub moved : State → Place → State
moved s p = record { place = p; line = s.line + 1; form = s.form; wrong = s.wrong; column = s.column; owner = s.owner; rows = s.rows; shape = s.shape }

-- a fault of form in this line
abbrev pub misformed : State → State
misformed s = record { place = s.place; line = s.line + 1; form = s.line; wrong = s.wrong; column = s.column; owner = s.owner; rows = s.rows; shape = s.shape }

-- labels
abbrev pub labelled : State → Shape → State
labelled s h = record { place = Under; line = s.line + 1; form = s.form; wrong = s.wrong; column = s.column; owner = s.owner; rows = s.rows; shape = h }

-- a field outside its type, in column c of this line
abbrev pub mistyped : State → ℕ → State
mistyped s c = record { place = s.place; line = s.line + 1; form = s.form; wrong = s.line; column = c; owner = s.owner; rows = s.rows; shape = s.shape }

-- an owner that is not the sender's
abbrev pub disowned : State → State
disowned s = record { place = s.place; line = s.line + 1; form = s.form; wrong = s.wrong; column = s.column; owner = s.line; rows = s.rows; shape = s.shape }

-- one row more
abbrev pub one_row_more : State → State
one_row_more s = record { place = s.place; line = s.line + 1; form = s.form; wrong = s.wrong; column = s.column; owner = s.owner; rows = s.rows + 1; shape = s.shape }

-- a row that was read, or its first wrong column
unfoldable pub row_step : Table → List ℕ → ℕ → State → Result (List ℕ) ℕ → State
row_step t register sender s (Ok row) = on (eqb s.owner 0) (on (may_send t register sender row) (one_row_more s) (disowned s)) (moved s s.place)
row_step t register sender s (Err column) = mistyped s column

-- a data line under labels: its count of fields first, and no more once a field was wrong
unfoldable pub data_step : Table → List ℕ → ℕ → State → List ℕ → State
data_step t register sender s l =
    on (eqb (length (fields l)) s.shape.count)
    (on (eqb s.wrong 0) (row_step t register sender s (read_by t s.shape l)) (moved s s.place))
    (misformed s)

-- a label line of the table
unfoldable pub label_step : State → Shape → State
label_step s h = on h.fault (misformed s) (labelled s h)

-- the place after a `\T` line with this name
abbrev pub place_named : Table → List ℕ → Place
place_named t name = on (same name (table_name t)) Awaiting Outside

abbrev pub step_at : Table → List ℕ → ℕ → State → List ℕ → Mark → State
step_at t register sender s l Marks.Group = moved s Outside
step_at t register sender s l Marks.Table = moved s (place_named t (until 124 (after_mark l)))
step_at t register sender s l Marks.Labels = on (is_awaiting s.place) (label_step s (shape_of t (fields (after_mark l)))) (moved s Outside)
step_at t register sender s l Marks.Data = on (is_under s.place) (data_step t register sender s l) (moved s s.place)

unfoldable pub step_by : Table → List ℕ → ℕ → State → List ℕ → State
step_by t register sender s l = step_at t register sender s l (mark_of l)

-- the same, but that a line behind a fault of form is only counted: the first such line is kept
unfoldable pub line_step : Table → List ℕ → ℕ → State → List ℕ → State
line_step t register sender s l = on (eqb s.form 0) (step_by t register sender s l) (moved s s.place)

-- ---- the staging area

-- the row r goes behind the n rows so far, if it fits
unfoldable pub staged : Table → ℕ → List ℕ → List ℕ → List ℕ
staged t n r staging = on (leb ((n + 1) * row_width t) (length staging)) (over (n * row_width t) (take (row_width t) r) staging) staging

unfoldable pub row_staged : Table → List ℕ → ℕ → State → Result (List ℕ) ℕ → List ℕ → List ℕ
row_staged t register sender s (Ok row) staging = on (eqb s.owner 0) (on (may_send t register sender row) (staged t s.rows row staging) staging) staging
row_staged t register sender s (Err column) staging = staging

unfoldable pub data_staged : Table → List ℕ → ℕ → State → List ℕ → List ℕ → List ℕ
data_staged t register sender s l staging =
    on (eqb (length (fields l)) s.shape.count) (on (eqb s.wrong 0) (row_staged t register sender s (read_by t s.shape l) staging) staging) staging

abbrev pub staged_at : Table → List ℕ → ℕ → State → List ℕ → Mark → List ℕ → List ℕ
staged_at t register sender s l Marks.Group staging = staging
staged_at t register sender s l Marks.Table staging = staging
staged_at t register sender s l Marks.Labels staging = staging
staged_at t register sender s l Marks.Data staging = on (is_under s.place) (data_staged t register sender s l staging) staging

unfoldable pub stage_by : Table → List ℕ → ℕ → State → List ℕ → List ℕ → List ℕ
stage_by t register sender s l staging = staged_at t register sender s l (mark_of l) staging

-- and no row is staged behind a fault of form
unfoldable pub line_staged : Table → List ℕ → ℕ → State → List ℕ → List ℕ → List ℕ
line_staged t register sender s l staging = on (eqb s.form 0) (stage_by t register sender s l staging) staging

-- a state before any line
abbrev pub Fresh : State → Type 0
Fresh s = (s.place ≡ Outside) × (s.line ≡ 1) × (s.form ≡ 0) × (s.wrong ≡ 0) × (s.column ≡ 0) × (s.owner ≡ 0) × (s.rows ≡ 0) × (s.shape ≡ no_shape)
