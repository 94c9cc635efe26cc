use Prim.Native.Nat.{ℕ, zero, suc, ◌+◌, ◌*◌, ◌-◌, ◌≤◌, ◌<◌}
use Prim.Native.String.{String}
use native.Mathlib.Decide.{ℕ_discrete, dec_lt}
use native.Mathlib.Omega.{arith}
use native.Mathlib.Nat.{zero-mul, suc-mul}
use mathlib.Core.Path.{◌≡◌, refl, sym, ap, ◌∙◌}
use mathlib.Core.Bool.{Bool, true, false, not, ◌&&◌}
use mathlib.Core.List.{List, [], ◌∷◌}
use mathlib.Core.Logic.{◌⊎◌, inl, inr, ⊎_elim}
use borrow.Author.Tests.{ne_eqb, eqb-true}
use lib.Dec.{eqb}
use lib.ListN.{length, drop, length-drop}
use Rattle.lists.specs.Part.{some}
use Rattle.lists.specs.Logic.{on}
use Rattle.lists.specs.Text.{bytes, same}
use Rattle.lists.proofs.LogicLaws.{and-false}
use Rattle.lists.proofs.TextLaws.{same-equal}
use Rattle.field_types.specs.Dates.{date}
use Rattle.field_types.specs.Times.{time}
use Rattle.field_types.specs.Stamps.{stamp}
use Rattle.field_types.proofs.TripleLaws.{triple-length, clock-other}
use Rattle.turbo_lines.specs.declared.Mark.{Mark}
use Rattle.turbo_lines.specs.declared.Mark.TheVariants as Marks
use Rattle.turbo.specs.Split.{until, past, tail_at, fields, field_at}
use Rattle.turbo_lines.specs.Lines.{lines, mark_of, after_mark}
use Rattle.turbo_labels.specs.Columns.{column_of}
use Rattle.turbo.proofs.SplitLaws.{until-le, past-drop, field-tail}
use Rattle.turbo_lines.proofs.LineLaws.{lines_cons, lines_none}
use Rattle.columns.specs.declared.Form.{Form}
use Rattle.columns.specs.declared.Table.{Table}
use Rattle.columns.specs.declared.Table.TheVariants.{Message, Planning, Calendar}
use Rattle.columns.specs.Cell.{null, missing_time, cell, number_cell, time_cell, time_at}
use Rattle.columns.specs.declared.Kind.{Kind}
use Rattle.columns.specs.declared.Kind.TheVariants as Kinds
use Rattle.columns.specs.Layout.{wanted, column_at}
use Rattle.columns.specs.Tables.{must, names, stop_field, cell_under, wrong_column, row_of, columns_in, message_columns, planning_columns, calendar_columns}
use Rattle.rows.proofs.RowLaws.{all_right}
use Rattle.reader.proofs.HeldLaws.{must-cell}
use Rattle.reader.specs.Items.{Item, head, row, Place, outside, awaiting, under, place_after, seen, in_front, items}
use Rattle.reader.specs.Rules.{form_bad, owner_bad, items_of}
use Rattle.reader.specs.Staging.{fine, rows_up_to}

-- How many rows a dossier can give: each row's line holds a stamp, a time or a date, and ends in two bytes. Assumes nothing.

-- a line's bytes with its line end
abbrev pub weights : List (List ℕ) → ℕ
weights [] = 0
weights (l ∷ ls) = length l + 2 + weights ls

past-shorter : (l : List ℕ) → length (past 124 l) ≤ length l
past-shorter l = omega (arith, ap length (past-drop 124 l), length-drop (suc (length (until 124 l))) l)

tail-shorter : (k : ℕ) (l : List ℕ) → length (tail_at k l) ≤ length l
unfolding tail_at
tail-shorter zero l = omega arith
tail-shorter (suc k) l = let a = tail-shorter k (past 124 l) in let b = past-shorter l in omega arith

-- a field is no longer than its line
field-shorter : (k : ℕ) (l : List ℕ) → length (field_at k l) ≤ length l
field-shorter k l = omega (arith, ap length (field-tail k l), until-le 124 (tail_at k l), tail-shorter k l)

rest-length : (d : List ℕ) → length (drop 1 (past 13 d)) ≡ length d - (length (until 13 d) + 2)
rest-length d =
    length-drop 1 (past 13 d)
    ∙ (let e : length (past 13 d) ≡ length d - suc (length (until 13 d)) = ap length (past-drop 13 d) ∙ length-drop (suc (length (until 13 d))) d in omega arith)

-- the lines of d with their line ends are d, but for a last line that has none
lines-weigh : (n : ℕ) (d : List ℕ) → length d ≤ n → weights (lines d) ≤ length d + 2
lines-weigh zero d h = let e = ap weights (lines_none d h) in omega arith
lines-weigh (suc n) d h = go (dec_lt 0 (length d)) (dec_lt 0 (length (drop 1 (past 13 d)))) (lines-weigh n (drop 1 (past 13 d)))
  where
    go : Dec (0 < length d) → Dec (0 < length (drop 1 (past 13 d))) → (length (drop 1 (past 13 d)) ≤ n → weights (lines (drop 1 (past 13 d))) ≤ length (drop 1 (past 13 d)) + 2) → weights (lines d) ≤ length d + 2
    go (no a) b ih = let e = ap weights (lines_none d (omega (arith, a))) in omega arith
    go (yes a) (yes b) ih =
        let e = ap weights (lines_cons d a) in
        let k = ih (omega (arith, rest-length d)) in
        omega (arith, rest-length d, until-le 13 d)
    go (yes a) (no b) ih =
        let e = ap weights (lines_cons d a) in
        let z = ap weights (lines_none (drop 1 (past 13 d)) (omega (arith, b))) in
        omega (arith, until-le 13 d)

-- ---- a row's line

-- a field of which something is kept has this length, if nothing is kept of others
length-kept : (kept : List ℕ) (n : ℕ) (f : List ℕ) → ((length f ≡ n → ⊥) → kept ≡ []) → some kept ≡ true → length f ≡ n
length-kept kept n f none e = go (ℕ_discrete (length f) n)
  where
    go : Dec (length f ≡ n) → length f ≡ n
    go (yes h) = h
    go (no h) = let k = ap some (none h) in absurd (let z : ◌≡◌ {A = ℕ} 0 1 = cc in omega arith)

-- a stamp has 25 bytes, a date ten, a time eight
stamp-long : (s f : List ℕ) → some (cell Kinds.Stamp s f) ≡ true → length f ≡ 25
unfolding cell stamp
stamp-long s f = length-kept (number_cell 4 (stamp f)) 25 f (λ h. rw (ne_eqb (length f) 25 h))

date-long : (s f : List ℕ) → some (cell Kinds.Date s f) ≡ true → length f ≡ 10
unfolding cell date
date-long s f = length-kept (number_cell 4 (date f)) 10 f (λ h. rw (← (triple-length 4 45 f h)))

time-long : (f : List ℕ) → some (time_cell (time f)) ≡ true → length f ≡ 8
unfolding time
time-long f = length-kept (time_cell (time f)) 8 f (λ h. rw (← (clock-other 31 f (triple-length 2 58 f h))))

-- a time that is not missing has eight
timed-long : (word s f : List ℕ) → some (time_at word s f) ≡ true → (length f ≡ 8) ⊎ (s ≡ word)
timed-long word s f = go (same f null) (same s word) refl
  where
    go : (b c : Bool) → same s word ≡ c → some (on b (on c missing_time []) (time_cell (time f))) ≡ true → (length f ≡ 8) ⊎ (s ≡ word)
    go true true q e = inr (same-equal s word q)
    go true false q e = absurd (let z : ◌≡◌ {A = ℕ} 0 1 = cc in omega arith)
    go false c q e = inl (time-long f e)

-- no stop is both first and last
not-both : (s : List ℕ) → s ≡ bytes "FIRST" → s ≡ bytes "LAST" → ⊥
not-both s e f = let z : ◌≡◌ {A = ℕ} 5 4 = sym (ap length e) ∙ ap length f in omega arith

times_long : (s f g : List ℕ) → some (cell Kinds.Arrival s f) ≡ true → some (cell Kinds.Departure s g) ≡ true → (length f ≡ 8) ⊎ (length g ≡ 8)
unfolding cell
times_long s f g a b =
    ⊎_elim inl (λ e. ⊎_elim inr (λ k. absurd (not-both s e k)) (timed-long (bytes "LAST") s g b)) (timed-long (bytes "FIRST") s f a)

-- something is kept of a column that must be there
right :
    (ls : List (List ℕ)) (l : List ℕ) (name : String) (k : Kind) → some (cell_under ls l (must name k)) ≡ true
    → some (cell k (stop_field ls l) (field_at (column_of (bytes name) ls) l)) ≡ true
right ls l name k e = (must-cell ls l name k e).1

-- a column by its name, when no column is wrong
kept_of :
    (t : Table) (ls : List (List ℕ)) (l : List ℕ) → wrong_column t ls l ≡ 0 → (name : String) → column_of (bytes name) (names t) < wanted t
    → some (cell_under ls l (column_at t (column_of (bytes name) (names t)))) ≡ true
kept_of t ls l e name h = all_right t ls l e (column_of (bytes name) (names t)) h

-- a message has its stamp
pub message-long : (f : Form) (ls : List (List ℕ)) (l : List ℕ) → wrong_column (Message f) ls l ≡ 0 → 27 ≤ length l + 2
unfolding columns_in message_columns column_at names column_of same
message-long f ls l e =
    let m = right ls l "LastUpdateTimeStamp" Kinds.Stamp (kept_of (Message f) ls l e "LastUpdateTimeStamp" (omega arith)) in
    omega (arith, field-shorter (column_of (bytes "LastUpdateTimeStamp") ls) l, stamp-long _ _ m)

-- a planning its times
planning-long : (ls : List (List ℕ)) (l : List ℕ) → wrong_column Planning ls l ≡ 0 → 10 ≤ length l + 2
unfolding columns_in planning_columns column_at names column_of same
planning-long ls l e =
    let a = right ls l "TargetArrivalTime" Kinds.Arrival (kept_of Planning ls l e "TargetArrivalTime" (omega arith)) in
    let b = right ls l "TargetDepartureTime" Kinds.Departure (kept_of Planning ls l e "TargetDepartureTime" (omega arith)) in
    ⊎_elim
    (λ h. omega (arith, field-shorter (column_of (bytes "TargetArrivalTime") ls) l, h))
    (λ h. omega (arith, field-shorter (column_of (bytes "TargetDepartureTime") ls) l, h))
    (times_long _ _ _ a b)

-- a calendar its date
calendar-long : (ls : List (List ℕ)) (l : List ℕ) → wrong_column Calendar ls l ≡ 0 → 12 ≤ length l + 2
unfolding columns_in calendar_columns column_at names column_of same
calendar-long ls l e =
    let m = right ls l "OperationDate" Kinds.Date (kept_of Calendar ls l e "OperationDate" (omega arith)) in
    omega (arith, field-shorter (column_of (bytes "OperationDate") ls) l, date-long _ _ m)

-- ---- the rows of a dossier, each of at least `least` bytes with its line end

module _ (t : Table) (least : ℕ) (long : (ls : List (List ℕ)) (l : List ℕ) → wrong_column t ls l ≡ 0 → least ≤ length l + 2) (register : List ℕ) (sender : ℕ) where
  abbrev bytes_of : List (List ℕ) → ℕ
  bytes_of rs = length rs * least

  abbrev staged : List Item → List (List ℕ)
  staged xs = rows_up_to t register sender xs

  on-weigh : (b : Bool) (rs : List (List ℕ)) (n : ℕ) → bytes_of rs ≤ n → bytes_of (on b rs []) ≤ n
  on-weigh true rs n h = h
  on-weigh false rs n h = rw (zero-mul least) (omega arith)

  head-weigh : (n : ℕ) (l : List ℕ) (xs : List Item) (w : ℕ) → bytes_of (staged xs) ≤ w → bytes_of (staged (head n (fields (after_mark l)) ∷ xs)) ≤ length l + 2 + w
  unfolding rows_up_to
  head-weigh n l xs w h = on-weigh (fine t register sender (head n (fields (after_mark l)))) (staged xs) (length l + 2 + w) (omega arith)

  row-weigh : (n : ℕ) (fs : List (List ℕ)) (l : List ℕ) (xs : List Item) (w : ℕ) → bytes_of (staged xs) ≤ w → bytes_of (staged (row n fs l ∷ xs)) ≤ length l + 2 + w
  unfolding rows_up_to
  row-weigh n fs l xs w h = go (eqb (wrong_column t fs l) 0) refl
    where
      go : (b : Bool) → eqb (wrong_column t fs l) 0 ≡ b
          → bytes_of (on (not (form_bad t (row n fs l)) && (not (not b) && not (owner_bad t register sender (row n fs l)))) (row_of t fs l ∷ staged xs) []) ≤ length l + 2 + w
      go true e =
          on-weigh (not (form_bad t (row n fs l)) && (true && not (owner_bad t register sender (row n fs l)))) (row_of t fs l ∷ staged xs) (length l + 2 + w)
          (omega (arith, long fs l (eqb-true _ _ e), suc-mul (length (staged xs)) least))
      go false e = rw (and-false (not (form_bad t (row n fs l))), zero-mul least) (omega arith)

  pub rows-weigh : (p : Place) (n : ℕ) (ls : List (List ℕ)) → bytes_of (staged (items t p n ls)) ≤ weights ls
  unfolding items rows_up_to
  rows-weigh p n [] = rw (zero-mul least) (omega arith)
  rows-weigh p n (l ∷ ls) = go (mark_of l) p (rows-weigh (place_after t (mark_of l) l p) (suc n) ls)
    where
      go : (m : Mark) (p : Place) → bytes_of (staged (items t (place_after t m l p) (suc n) ls)) ≤ weights ls
          → bytes_of (staged (in_front (seen m n l p) (items t (place_after t m l p) (suc n) ls))) ≤ length l + 2 + weights ls
      go Marks.Group p h = omega arith
      go Marks.Table p h = omega arith
      go Marks.Labels outside h = omega arith
      go Marks.Labels awaiting h = head-weigh n l (items t (place_after t Marks.Labels l awaiting) (suc n) ls) (weights ls) h
      go Marks.Labels (under fs) h = omega arith
      go Marks.Data outside h = omega arith
      go Marks.Data awaiting h = omega arith
      go Marks.Data (under fs) h = row-weigh n fs l (items t (under fs) (suc n) ls) (weights ls) h

  -- the rows, so many bytes each, are no more than the dossier's bytes and two
  rows-bounded : (d : List ℕ) → bytes_of (staged (items_of t d)) ≤ length d + 2
  rows-bounded d = let a = rows-weigh outside 1 (lines d) in let b = lines-weigh (length d) d (omega arith) in omega arith

pub message-bounded : (f : Form) (register : List ℕ) (sender : ℕ) (d : List ℕ) → length (rows_up_to (Message f) register sender (items_of (Message f) d)) * 27 ≤ length d + 2
message-bounded f = rows-bounded (Message f) 27 (message-long f)

pub planning-bounded : (register : List ℕ) (sender : ℕ) (d : List ℕ) → length (rows_up_to Planning register sender (items_of Planning d)) * 10 ≤ length d + 2
planning-bounded = rows-bounded Planning 10 planning-long

pub calendar-bounded : (register : List ℕ) (sender : ℕ) (d : List ℕ) → length (rows_up_to Calendar register sender (items_of Calendar d)) * 12 ≤ length d + 2
calendar-bounded = rows-bounded Calendar 12 calendar-long
