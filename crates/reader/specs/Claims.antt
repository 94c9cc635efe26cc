-- What is certain of a reader's answer. `proofs/Claims.antt` proves `All`. Assumes nothing.
use Rattle.std.specs.Prelude.{ℕ, ◌+◌, ◌*◌, ◌≤◌, ◌<◌, ◌≡◌, true, false, List, [], ◌∷◌, ◌++◌, ◌↔◌, length, Err, Ok}
use Rattle.lists.specs.Each.{Each}
use Rattle.lists.specs.Rows.{rows_of}
use Rattle.grammar.specs.Grammar.{WellFormed}
use Rattle.syntax.specs.Machine.{fault}
use Rattle.turbo.specs.Split.{until, fields}
use Rattle.turbo_lines.specs.declared.Mark.TheVariants as Marks
use Rattle.turbo_lines.specs.Lines.{lines, mark_of, after_mark}
use Rattle.turbo_lines.specs.Claims.{Short, LongAt}
use Rattle.turbo_labels.specs.Claims.{Twice}
use Rattle.columns.specs.declared.Form as Forms
use Rattle.columns.specs.declared.Table.{Table}
use Rattle.columns.specs.declared.Table.TheVariants.{Message, Planning, Calendar}
use Rattle.columns.specs.Tables.{table_name, name_of, row_width, row_of}
use Rattle.columns.specs.Layout.{wanted, column_at, optional_at}
use Rattle.columns.specs.Claims.{Unlabelled}
use Rattle.register.specs.Register.{may_send}
use Rattle.rows.specs.Claims.{Stands, cell_by, part_of, OutsideType}
use Rattle.reader.specs.declared.Fault.TheVariants.{TooLong, Syntax, Long, Form, Field, Owner}
use Rattle.passage.specs.Ranges.{update_in_range}
use Rattle.reader.specs.Items.{Item, head, row}
use Rattle.reader.specs.Staged.{PassFacts, ValidityFacts}
use Rattle.reader.specs.Rules.{largest, line_number, form_bad, wrong_at, owner_bad, data_rows, items_of, reading_of}
use Rattle.reader.specs.Staging.{rows_up_to, short_items, staged_by}
use Rattle.reader.specs.Numbers.{reading_numbers, reading_table}

-- neither 15 nor a number from 2 to 6 is given exactly when the dossier is within its size, well formed, no line is too long, every label line and field count is right,
-- every wanted field is in its type, and every row's owner is registered for the sender
abbrev pub AcceptedExactly : Type 0
AcceptedExactly =
    (t : Table) (register : List ℕ) (sender : ℕ) (d : List ℕ) →
    ((n : ℕ) × (reading_of t register sender d ≡ Ok n))
    ↔ ((length d ≤ largest) × WellFormed d
    × Each Short (lines d)
    × Each (λ (x : Item). form_bad t x ≡ false) (items_of t d)
    × Each (λ (x : Item). wrong_at t x ≡ 0) (items_of t d)
    × Each (λ (x : Item). owner_bad t register sender x ≡ false) (items_of t d))

-- ---- the label lines and data lines of a table

-- a data line
abbrev pub IsData : List ℕ → Type 0
IsData l = mark_of l ≡ Marks.Data

-- the lines end in a `\T` line with the table's name, but for data lines behind it
pub record Named (t : Table) (ls : List (List ℕ)) : Type 0 where
  pub earlier : List (List ℕ)
  pub line : List ℕ
  pub later : List (List ℕ)
  pub split : ls ≡ earlier ++ line ∷ later
  pub mark : mark_of line ≡ Marks.Table
  pub name : until 124 (after_mark line) ≡ table_name t
  pub data-later : Each IsData later

-- the lines end in a `\L` line with these labels behind the table's `\T` line, but for data lines behind it
pub record Under (t : Table) (ls labels : List (List ℕ)) : Type 0 where
  pub earlier : List (List ℕ)
  pub line : List ℕ
  pub later : List (List ℕ)
  pub split : ls ≡ earlier ++ line ∷ later
  pub mark : mark_of line ≡ Marks.Labels
  pub label : labels ≡ fields (after_mark line)
  pub data-later : Each IsData later
  pub named : Named t earlier

-- the item x is what its line says, with the number of that line: a label line behind the table's name, or a data line under its labels
abbrev pub Is : Table → Item → List (List ℕ) → List ℕ → Type 0
Is t (head n labels) before l = (n ≡ length before + 1) × (mark_of l ≡ Marks.Labels) × (labels ≡ fields (after_mark l)) × Named t before
Is t (row n labels line) before l = (n ≡ length before + 1) × IsData l × (line ≡ l) × Under t before labels

-- x is one of them
abbrev pub OneOf : Item → List Item → Type 0
OneOf x xs = (before : List Item) × (after : List Item) × (xs ≡ before ++ x ∷ after)

-- the items of a dossier are exactly the label lines and the data lines of the table
abbrev pub ItemsExactly : Type 0
ItemsExactly =
    (t : Table) (d : List ℕ) (x : Item)
    → OneOf x (items_of t d)
    ↔ ((before : List (List ℕ)) × (l : List ℕ) × (after : List (List ℕ)) × (lines d ≡ before ++ l ∷ after) × Is t x before l)

-- the line numbers rise from n on
abbrev pub Rise : ℕ → List Item → Type 0
Rise n [] = Unit {0}
Rise n (x ∷ xs) = (n ≤ line_number x) × Rise (line_number x + 1) xs

-- they stand in the order of their lines, each once
abbrev pub ItemsInOrder : Type 0
ItemsInOrder = (t : Table) (d : List ℕ) → Rise 1 (items_of t d)

-- ---- the rows of an accepted dossier

-- a row as its line says: each column's cell is that of the field under its name, or what is kept of an absent one
abbrev pub SaidBy : Table → List (List ℕ) → List ℕ → List ℕ → Type 0
SaidBy t labels line r =
    (length r ≡ row_width t)
    × ((j : ℕ) → j < wanted t →
    ((p : ℕ) → Stands t labels j p → part_of t j r ≡ cell_by t labels line j p)
    × (((p : ℕ) → Stands t labels j p → ⊥) → part_of t j r ≡ (column_at t j).absent))

-- a row for each data line, in order, and no other
abbrev pub RowForEach : Table → List Item → List (List ℕ) → Type 0
RowForEach t [] [] = Unit {0}
RowForEach t [] (r ∷ rs) = ⊥
RowForEach t (head n labels ∷ xs) rs = RowForEach t xs rs
RowForEach t (row n labels line ∷ xs) [] = ⊥
RowForEach t (row n labels line ∷ xs) (r ∷ rs) = SaidBy t labels line r × RowForEach t xs rs

-- the rows of an accepted dossier are those that its data lines say
abbrev pub RowsSayLines : Type 0
RowsSayLines =
    (t : Table) (register : List ℕ) (sender : ℕ) (d : List ℕ) (n : ℕ) → reading_of t register sender d ≡ Ok n
    → RowForEach t (items_of t d) (data_rows t (items_of t d))

-- ---- each refusal exactly, with its place

-- x is the first of the items that is not right
pub record FirstNot (Right : Item → Type 0) (xs : List Item) (x : Item) : Type 0 where
  pub before : List Item
  pub after : List Item
  pub split : xs ≡ before ++ x ∷ after
  pub right : Each Right before
  pub wrong : Right x → ⊥

-- a label line has no wanted name twice and each that must be there; a data line has as many fields as there are labels
abbrev pub FormRight : Table → Item → Type 0
FormRight t (head n labels) =
    ((j : ℕ) → j < wanted t → Twice (name_of (column_at t j)) labels → ⊥)
    × ((j : ℕ) → j < wanted t → optional_at t j ≡ false → (p : ℕ) × Stands t labels j p)
FormRight t (row n labels line) = length (fields line) ≡ length labels

-- no wanted field of a data line is outside its type
abbrev pub FieldsRight : Table → Item → Type 0
FieldsRight t (head n labels) = Unit {0}
FieldsRight t (row n labels line) = (p : ℕ) → OutsideType t labels line p → ⊥

-- the sender may send the row of a data line
abbrev pub OwnerRight : Table → List ℕ → ℕ → Item → Type 0
OwnerRight t register sender (head n labels) = Unit {0}
OwnerRight t register sender (row n labels line) = may_send t register sender (row_of t labels line) ≡ true

-- 2 exactly for more than 65,536 bytes
abbrev pub TooLongExactly : Type 0
TooLongExactly = (t : Table) (register : List ℕ) (sender : ℕ) (d : List ℕ) → (reading_of t register sender d ≡ Err TooLong) ↔ (65536 < length d)

-- 3 exactly where the syntax has its fault, and there
abbrev pub SyntaxExactly : Type 0
SyntaxExactly =
    (t : Table) (register : List ℕ) (sender : ℕ) (d : List ℕ) (i : ℕ)
    → (reading_of t register sender d ≡ Err (Syntax i)) ↔ ((length d ≤ 65536) × (fault d ≡ Err i))

-- 15 exactly where the dossier is within its size and well formed, at the first line of more than 4,096 bytes with its CR LF, of whatever table or of none
abbrev pub LongExactly : Type 0
LongExactly =
    (t : Table) (register : List ℕ) (sender : ℕ) (d : List ℕ) (l : ℕ)
    → (reading_of t register sender d ≡ Err (Long l)) ↔ ((length d ≤ 65536) × WellFormed d × LongAt (lines d) l)

-- 4 exactly where no line is too long, at the first line that is not right in form
abbrev pub FormExactly : Type 0
FormExactly =
    (t : Table) (register : List ℕ) (sender : ℕ) (d : List ℕ) (l : ℕ)
    → (reading_of t register sender d ≡ Err (Form l))
    ↔ ((length d ≤ 65536) × WellFormed d × Each Short (lines d) × ((x : Item) × FirstNot (FormRight t) (items_of t d) x × (line_number x ≡ l)))

-- 5 exactly where no line is too long and every line is right in form, at the first line with a wanted field outside its type, and at the first such field, from 1
abbrev pub FieldExactly : Type 0
FieldExactly =
    (t : Table) (register : List ℕ) (sender : ℕ) (d : List ℕ) (l c : ℕ)
    → (reading_of t register sender d ≡ Err (Field l c))
    ↔ ((length d ≤ 65536) × WellFormed d × Each Short (lines d) × Each (FormRight t) (items_of t d)
    × ((labels : List (List ℕ)) × (line : List ℕ) × (p : ℕ) × FirstNot (FieldsRight t) (items_of t d) (row l labels line)
    × (c ≡ p + 1) × OutsideType t labels line p × ((q : ℕ) → OutsideType t labels line q → p ≤ q)))

-- 6 exactly where no line is too long, or wrong in form or in a field, at the first row that the sender may not send
abbrev pub OwnerExactly : Type 0
OwnerExactly =
    (t : Table) (register : List ℕ) (sender : ℕ) (d : List ℕ) (l : ℕ)
    → (reading_of t register sender d ≡ Err (Owner l))
    ↔ ((length d ≤ 65536) × WellFormed d × Each Short (lines d) × Each (FormRight t) (items_of t d) × Each (FieldsRight t) (items_of t d)
    × ((x : Item) × FirstNot (OwnerRight t register sender) (items_of t d) x × (line_number x ≡ l)))

-- an answer's numbers are those of document 01's table
abbrev pub NumbersByTable : Type 0
NumbersByTable = (t : Table) (register : List ℕ) (sender : ℕ) (d : List ℕ) → reading_numbers (reading_of t register sender d) ≡ reading_table t register sender d

-- where a dossier is accepted, the number is that of the rows of all its data lines
abbrev pub RowsCounted : Type 0
RowsCounted =
    (t : Table) (register : List ℕ) (sender : ℕ) (d : List ℕ) (n : ℕ) → reading_of t register sender d ≡ Ok n → n ≡ length (data_rows t (items_of t d))

-- the desk, sender 0, sends no row
abbrev pub DeskSendsNothing : Type 0
DeskSendsNothing = (f : Forms.Form) (register d : List ℕ) (n : ℕ) → reading_of (Message f) register 0 d ≡ Ok n → n ≡ 0

-- a message has at most 2,427 rows: a row's line holds a stamp of 25 bytes and ends in two, so a staging area of 160,182 bytes suffices
abbrev pub RowsBounded : Type 0
RowsBounded = (f : Forms.Form) (register : List ℕ) (sender : ℕ) (d : List ℕ) (n : ℕ) → reading_of (Message f) register sender d ≡ Ok n → (n * 27 ≤ length d + 2) × (n ≤ 2427)

-- a planning has at most 6,553 rows: a row's line holds a time of eight bytes, as an arrival is missing only at the first stop and a departure
-- only at the last; a calendar has at most 5,461: a row's line holds a date of ten
abbrev pub PlanningBounded : Type 0
PlanningBounded = (d : List ℕ) (n : ℕ) → reading_of Planning [] 0 d ≡ Ok n → (n * 10 ≤ length d + 2) × (n ≤ 6553)

abbrev pub CalendarBounded : Type 0
CalendarBounded = (d : List ℕ) (n : ℕ) → reading_of Calendar [] 0 d ≡ Ok n → (n * 12 ≤ length d + 2) × (n ≤ 5461)

-- every row of an accepted message is an update in range
abbrev pub UpdatesInRange : Type 0
UpdatesInRange =
    (f : Forms.Form) (register : List ℕ) (sender : ℕ) (d : List ℕ) (n : ℕ) → reading_of (Message f) register sender d ≡ Ok n
    → Each (λ (r : List ℕ). update_in_range r ≡ true) (data_rows (Message f) (items_of (Message f) d))

-- every row of an accepted planning is a pass time in range, and every row of an accepted calendar a validity
abbrev pub PassesInRange : Type 0
PassesInRange = (d : List ℕ) (n : ℕ) → reading_of Planning [] 0 d ≡ Ok n → Each PassFacts (data_rows Planning (items_of Planning d))

abbrev pub ValiditiesInRange : Type 0
ValiditiesInRange = (d : List ℕ) (n : ℕ) → reading_of Calendar [] 0 d ≡ Ok n → Each ValidityFacts (data_rows Calendar (items_of Calendar d))

-- so is each row that is staged before a refusal 15 or 4 to 6
abbrev pub StagedInRange : Type 0
StagedInRange =
    (f : Forms.Form) (register : List ℕ) (sender : ℕ) (d : List ℕ)
    → Each (λ (r : List ℕ). update_in_range r ≡ true) (rows_up_to (Message f) register sender (short_items (Message f) d))
    × Each PassFacts (rows_up_to Planning register sender (short_items Planning d))
    × Each ValidityFacts (rows_up_to Calendar register sender (short_items Calendar d))

-- the staging area keeps its length
abbrev pub AreaKeepsLength : Type 0
AreaKeepsLength = (t : Table) (register : List ℕ) (sender : ℕ) (d staging : List ℕ) → length (staged_by t register sender d staging) ≡ length staging

-- where it has room for the rows of an accepted dossier, it holds them all
abbrev pub StagedRowsAreRows : Type 0
StagedRowsAreRows =
    (t : Table) (register : List ℕ) (sender : ℕ) (d staging : List ℕ) (n : ℕ) → reading_of t register sender d ≡ Ok n → n * row_width t ≤ length staging
    → rows_of (row_width t) n (staged_by t register sender d staging) ≡ data_rows t (items_of t d)

-- the item's labels have none of the three names in which the forms of a message differ
abbrev pub Plain : Item → Type 0
Plain (head n ls) = Unlabelled "ShowCancelledTrip" ls × Unlabelled "ShowCancelledJourney" ls × Unlabelled "Monitored" ls
Plain (row n ls l) = Unlabelled "ShowCancelledTrip" ls × Unlabelled "ShowCancelledJourney" ls × Unlabelled "Monitored" ls

-- a message without them is read the same in both forms: the answer, and the rows
abbrev pub FormsReadAlike : Type 0
FormsReadAlike =
    (f g : Forms.Form) (register : List ℕ) (sender : ℕ) (d : List ℕ) → Each Plain (items_of (Message f) d)
    → (reading_of (Message f) register sender d ≡ reading_of (Message g) register sender d)
    × (data_rows (Message f) (items_of (Message f) d) ≡ data_rows (Message g) (items_of (Message g) d))

abbrev pub All : Type 0
All =
    ItemsExactly × ItemsInOrder × RowsSayLines × AcceptedExactly × TooLongExactly × SyntaxExactly × LongExactly × FormExactly × FieldExactly × OwnerExactly × NumbersByTable × RowsCounted × DeskSendsNothing × RowsBounded × PlanningBounded × CalendarBounded × UpdatesInRange × PassesInRange × ValiditiesInRange
    × StagedInRange × AreaKeepsLength × StagedRowsAreRows × FormsReadAlike
