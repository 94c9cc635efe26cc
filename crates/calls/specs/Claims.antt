-- Demands 1 and 2: what is certain of the calls' rules, in plain form. Demand 3 is claimed in `runs`. Assumes nothing.
use Rattle.std.specs.Prelude.{ℕ, ◌+◌, ◌-◌, ◌*◌, ◌≤◌, ◌<◌, ◌≡◌, Bool, true, false, ◌||◌, List, [], ◌∷◌, ◌++◌, map, ◌↔◌, eqb, length, take, drop, get_or, replicate, Ok, Err}
use Rattle.lists.specs.Logic.{on}
use Rattle.lists.specs.Each.{Each, Bytes}
use Rattle.lists.specs.Part.{part}
use Rattle.lists.specs.Text.{same}
use Rattle.lists.specs.BigEndian.{spelled}
use Rattle.lists.specs.Rows.{rows_of, flat}
use Rattle.passage.specs.Layout.{key_wide, row_wide, key_of, owner_of, date_of, line_of, journey_of, fortify_of, stop_of, order_of}
use Rattle.register.specs.Register.{register_sound}
use Rattle.grammar.specs.Grammar.{WellFormed}
use Rattle.turbo_lines.specs.Lines.{lines}
use Rattle.turbo_lines.specs.Claims.{Short}
use Rattle.columns.specs.declared.Form.TheVariants.{Old}
use Rattle.columns.specs.declared.Table.TheVariants as Tables
use Rattle.reader.specs.Items.{Item}
use Rattle.reader.specs.Rules.{largest, form_bad, wrong_at, owner_bad, data_rows, items_of, reading_of}
use Rattle.reader.specs.Claims.{Plain}
use Rattle.feeds.specs.Kept.{feed_of}
use Rattle.plan.specs.Passes.{plan_body}
use Rattle.plan.specs.Rules.{matches, joined}
use Rattle.plan.specs.Claims.{Some}
use Rattle.keys.specs.Sorted.{sorted_rows, get}
use Rattle.keys.specs.Replay.{replayed}
use Rattle.update.specs.Rule.{row_rule}
use Rattle.table.specs.Rules.{table_sound, table_room}
use Rattle.book.specs.Entries.{plan_wide, entry_wide, number_of, sender_of, kind_of, entry_body, plan_count, plan_bodies, updates_in}
use Rattle.book.specs.Rules.{book_sound, book_room, next_number, message_entries, others, standing, plan_rows}
use Rattle.calls.specs.declared.Refusal.TheVariants.{Unsound}
use Rattle.calls.specs.declared.Counts.{Counts}
use Rattle.calls.specs.Answers.{Answer, numbers, is_accepted, unless_refused}
use Rattle.calls.specs.Leaves.{Leaves}
use Rattle.calls.specs.Message.{message_sound, message_table, message_rows, rows_taken, room_for, message_answer, message_leaves}
use Rattle.calls.specs.Withdraw.{rows_without, withdraw_answer, withdraw_leaves}
use Rattle.calls.specs.Open.{plan_of, open_answer, open_leaves}
use Rattle.calls.specs.End.{end_sound, reading_kept, post_answer, end_answer, end_leaves}
use Rattle.calls.specs.Numbers.{open_numbers, message_numbers, withdraw_numbers, end_numbers}

-- ---- demand 1

-- acceptance is number 0, and only acceptance is
abbrev pub AcceptanceIsZero : Type 0
AcceptanceIsZero = (a : Answer) → (is_accepted a ≡ true) ↔ ((numbers a).0 ≡ 0)

-- a call that is refused gives back the counts, the book and the table as they were
abbrev pub GivesBack : Leaves → Counts → List ℕ → List ℕ → Type 0
GivesBack left c book table = is_accepted left.outcome.answer ≡ false → (left.outcome.counts ≡ c) × (left.book ≡ book) × (left.table ≡ table)

-- every refusal, of any bytes whatever, gives back the counts and every lent byte
abbrev pub RefusalsGiveBack : Type 0
RefusalsGiveBack =
    (planning calendar dossier register book table : List ℕ) (number sender form : ℕ) (c : Counts)
    → GivesBack (open_leaves planning calendar book table c) c book table
    × GivesBack (message_leaves dossier sender form register book table c) c book table
    × GivesBack (withdraw_leaves number sender book table c) c book table

-- one of these numbers
abbrev pub is_one_of : List ℕ → ℕ → Bool
is_one_of [] n = false
is_one_of (x ∷ xs) n = eqb n x || is_one_of xs n

-- the number is one of document 01's list for the call
abbrev pub NumbersListed : Type 0
NumbersListed =
    (planning calendar dossier register book table : List ℕ) (number sender form : ℕ) (c : Counts)
    → (is_one_of (0 ∷ 2 ∷ 3 ∷ 15 ∷ 4 ∷ 5 ∷ 7 ∷ 9 ∷ 8 ∷ []) (numbers (open_answer planning calendar book table)).0 ≡ true)
    × (is_one_of (0 ∷ 1 ∷ 18 ∷ 2 ∷ 3 ∷ 15 ∷ 4 ∷ 5 ∷ 6 ∷ 7 ∷ 8 ∷ []) (numbers (message_answer dossier sender form register book table c)).0 ≡ true)
    × (is_one_of (0 ∷ 1 ∷ 10 ∷ 12 ∷ 11 ∷ 8 ∷ []) (numbers (withdraw_answer number sender book table c)).0 ≡ true)

-- the four numbers are the first line of document 01's table that holds, for each call
abbrev pub NumbersAreTables : Type 0
NumbersAreTables =
    (planning calendar dossier register book table : List ℕ) (number sender form : ℕ) (c : Counts)
    → (numbers (open_answer planning calendar book table) ≡ open_numbers planning calendar book table)
    × (numbers (message_answer dossier sender form register book table c) ≡ message_numbers dossier sender form register book table c)
    × (numbers (withdraw_answer number sender book table c) ≡ withdraw_numbers number sender book table c)

-- a refused end of a dossier in parts gives back the counts, the book, the table and the feed's numbers as they were
abbrev pub EndGivesBack : Type 0
EndGivesBack =
    (register staging book table : List ℕ) (c : Counts) (kept : List ℕ)
    → let left = end_leaves register staging book table c kept in
    is_accepted left.outcome.answer ≡ false
    → (left.outcome.counts ≡ c) × (left.book ≡ book) × (left.table ≡ table) × (left.kept ≡ kept)

-- its number is one of this list
abbrev pub EndNumbersListed : Type 0
EndNumbersListed =
    (register staging book table : List ℕ) (c : Counts) (kept : List ℕ)
    → is_one_of (0 ∷ 1 ∷ 18 ∷ 2 ∷ 3 ∷ 15 ∷ 4 ∷ 5 ∷ 6 ∷ 14 ∷ 7 ∷ 8 ∷ []) (numbers (end_answer register staging book table c kept)).0 ≡ true

-- and its four numbers are the first line of its table that holds
abbrev pub EndNumbersAreTable : Type 0
EndNumbersAreTable =
    (register staging book table : List ℕ) (c : Counts) (kept : List ℕ)
    → numbers (end_answer register staging book table c kept) ≡ end_numbers register staging book table c kept

-- 18 is told exactly where what is lent is sound and the form is neither 0 nor 1, whatever the dossier; and so at the end of one in parts, whatever was found in them
abbrev pub UnknownFormExactly : Type 0
UnknownFormExactly =
    (dossier register staging book table kept : List ℕ) (sender form : ℕ) (c : Counts)
    → (((numbers (message_answer dossier sender form register book table c)).0 ≡ 18) ↔ ((message_sound register book table c ≡ true) × (1 < form)))
    × (((numbers (end_answer register staging book table c kept)).0 ≡ 18) ↔ ((end_sound register staging book table c kept ≡ true) × (1 < (feed_of kept).form)))

-- ---- demand 2

-- a message is accepted exactly when register, book and table are sound, its form is known, 0 or 1, the dossier is within its size and well formed, no line is too long, every label line,
-- field count and wanted field is right, each row's owner is registered for the sender, and there is room in the book and in the table
abbrev pub MessageAcceptedExactly : Type 0
MessageAcceptedExactly =
    (dossier register book table : List ℕ) (sender form : ℕ) (c : Counts)
    → (is_accepted (message_answer dossier sender form register book table c) ≡ true)
    ↔ ((register_sound register ≡ true) × (book_sound c.used book ≡ true) × (table_sound c.rows table ≡ true)
    × (form ≤ 1)
    × (length dossier ≤ largest) × WellFormed dossier
    × Each Short (lines dossier)
    × Each (λ (x : Item). form_bad (message_table form) x ≡ false) (items_of (message_table form) dossier)
    × Each (λ (x : Item). wrong_at (message_table form) x ≡ 0) (items_of (message_table form) dossier)
    × Each (λ (x : Item). owner_bad (message_table form) register sender x ≡ false) (items_of (message_table form) dossier)
    × (c.used + length (message_rows form dossier) * entry_wide ≤ book_room book)
    × (length (rows_taken (message_rows form dossier) table c.rows) ≤ table_room table))

-- two rows have one key exactly where owner, date, line, journey, fortify, stop and order number are equal
abbrev pub KeyIsSevenFields : Type 0
KeyIsSevenFields =
    (a b : List ℕ) → Bytes a → Bytes b → key_wide ≤ length a → key_wide ≤ length b
    → (key_of a ≡ key_of b)
    ↔ ((owner_of a ≡ owner_of b) × (date_of a ≡ date_of b) × (line_of a ≡ line_of b) × (journey_of a ≡ journey_of b)
    × (fortify_of a ≡ fortify_of b) × (stop_of a ≡ stop_of b) × (order_of a ≡ order_of b))

-- each row of an accepted message changes the passage with its key, by the row rule, in the dossier's order, and no other passage
abbrev pub RowsChangeTheirPassage : Type 0
RowsChangeTheirPassage =
    (dossier register book table : List ℕ) (sender form : ℕ) (c : Counts) → is_accepted (message_answer dossier sender form register book table c) ≡ true
    → let left = message_leaves dossier sender form register book table c in
    ((k : List ℕ)
    → get k (rows_of row_wide left.outcome.counts.rows left.table)
    ≡ replayed row_rule k (get k (rows_of row_wide c.rows table)) (message_rows form dossier))
    × ((k : List ℕ) → Each (λ (u : List ℕ). same (key_of u) k ≡ false) (message_rows form dossier)
    → get k (rows_of row_wide left.outcome.counts.rows left.table)
    ≡ get k (rows_of row_wide c.rows table))

-- in the old form a message is answered as it was before there was another: 1, what the dossier gives by the old columns, 7, 8; and so is the end of one in parts
abbrev pub OldFormAnswers : Type 0
OldFormAnswers =
    (dossier register staging book table kept : List ℕ) (sender : ℕ) (c : Counts)
    → (message_answer dossier sender 0 register book table c
    ≡ on (message_sound register book table c)
    (unless_refused 0 (reading_of (Tables.Message Old) register sender dossier)
    (room_for (data_rows (Tables.Message Old) (items_of (Tables.Message Old) dossier)) book table c))
    (Err Unsound))
    × ((feed_of kept).form ≡ 0
    → end_answer register staging book table c kept
    ≡ on (end_sound register staging book table c kept)
    (unless_refused 0 (reading_kept (feed_of kept)) (post_answer register staging book table c (feed_of kept)))
    (Err Unsound))

-- a message whose labels have none of the names in which the forms differ comes to the same in both
abbrev pub FormsTakenAlike : Type 0
FormsTakenAlike =
    (dossier register book table : List ℕ) (sender : ℕ) (c : Counts) → Each Plain (items_of (message_table 0) dossier)
    → message_leaves dossier sender 0 register book table c ≡ message_leaves dossier sender 1 register book table c

-- the rows of a message are those of all its data lines, in their order
abbrev pub RowsAreDataLines : Type 0
RowsAreDataLines = (form : ℕ) (dossier : List ℕ) → message_rows form dossier ≡ data_rows (message_table form) (items_of (message_table form) dossier)

-- an accepted message without rows has number 0 and changes nothing; one with rows has the next number
abbrev pub MessageNumbered : Type 0
MessageNumbered =
    (dossier register book table : List ℕ) (sender form : ℕ) (c : Counts) → is_accepted (message_answer dossier sender form register book table c) ≡ true
    → let left = message_leaves dossier sender form register book table c in
    (length (message_rows form dossier) ≡ 0
    → ((numbers (message_answer dossier sender form register book table c)).1 ≡ 0) × (left.outcome.counts ≡ c) × (left.book ≡ book) × (left.table ≡ table))
    × (0 < length (message_rows form dossier) → (numbers (message_answer dossier sender form register book table c)).1 ≡ next_number (updates_in c.used book))

-- behind the used bytes the book has for each row of an accepted message an entry: kind 2, the next number, the sender, the row; every other byte is as it was
abbrev pub RowsGoToBook : Type 0
RowsGoToBook =
    (dossier register book table : List ℕ) (sender form : ℕ) (c : Counts) → is_accepted (message_answer dossier sender form register book table c) ≡ true
    → let left = message_leaves dossier sender form register book table c in
    let next = next_number (updates_in c.used book) in
    let more = c.used + length (message_rows form dossier) * entry_wide in
    (left.outcome.counts.used ≡ more)
    × (left.book
    ≡ take c.used book ++ (flat (map (λ (row : List ℕ). 2 ∷ spelled 4 next ++ sender ∷ row) (message_rows form dossier)) ++ drop more book))

-- of the bytes t that held n rows and now, as `new`, hold m: what is freed is zero, and what stands behind the rows is as it was
abbrev pub FreedAndKept : ℕ → ℕ → List ℕ → List ℕ → Type 0
FreedAndKept n m t new =
    (length new ≡ length t)
    × (m ≤ n → part (m * row_wide) ((n - m) * row_wide) new ≡ replicate ((n - m) * row_wide) 0)
    × ((i : ℕ) → n ≤ i → m ≤ i → drop (i * row_wide) new ≡ drop (i * row_wide) t)

-- so it is with the table after an accepted message or withdrawal; a message frees no row
abbrev pub TableFreedAndKept : Type 0
TableFreedAndKept =
    (dossier register book table : List ℕ) (number sender form : ℕ) (c : Counts)
    → (is_accepted (message_answer dossier sender form register book table c) ≡ true
    → let left = message_leaves dossier sender form register book table c in
    (c.rows ≤ left.outcome.counts.rows) × FreedAndKept c.rows left.outcome.counts.rows table left.table)
    × (is_accepted (withdraw_answer number sender book table c) ≡ true
    → let left = withdraw_leaves number sender book table c in
    FreedAndKept c.rows left.outcome.counts.rows table left.table)

-- no two of these have one key
abbrev pub Apart : List (List ℕ) → Type 0
Apart [] = Unit {0}
Apart (b ∷ bs) = Each (λ (c : List ℕ). key_of b ≡ key_of c → ⊥) bs × Apart bs

-- an open is accepted exactly when both dossiers are read without a refusal, the book has room for an entry and the table for a row of each pass time
-- joined with each validity of its owner and service level, and no two of these have one key
abbrev pub OpenAcceptedExactly : Type 0
OpenAcceptedExactly =
    (planning calendar book table : List ℕ)
    → let passages = joined (data_rows Tables.Planning (items_of Tables.Planning planning)) (data_rows Tables.Calendar (items_of Tables.Calendar calendar)) in
    (is_accepted (open_answer planning calendar book table) ≡ true)
    ↔ (((n : ℕ) × (reading_of Tables.Planning [] 0 planning ≡ Ok n)) × ((n : ℕ) × (reading_of Tables.Calendar [] 0 calendar ≡ Ok n))
    × (length passages * plan_wide ≤ book_room book) × Apart passages × (length passages ≤ table_room table))

-- an accepted open writes the plan: from the start of the book an entry of kind 1 for each passage, from the start of the table a row with
-- heard 0; the bytes behind them are as they were
abbrev pub OpenLeavesPlan : Type 0
OpenLeavesPlan =
    (planning calendar book table : List ℕ) (c : Counts) → is_accepted (open_answer planning calendar book table) ≡ true
    → let left = open_leaves planning calendar book table c in
    let plan = plan_of planning calendar in
    (left.outcome.counts.used ≡ length plan * plan_wide)
    × (left.outcome.counts.rows ≡ length plan)
    × (left.book ≡ flat (map (λ (b : List ℕ). 1 ∷ b) plan) ++ drop (length plan * plan_wide) book)
    × (left.table ≡ flat (map (λ (b : List ℕ). b ++ 0 ∷ []) plan) ++ drop (length plan * row_wide) table)

-- the plan goes by key strictly rising, and a passage stands in it exactly where a pass time and a validity of the dossiers match and give it
abbrev pub PlanExactly : Type 0
PlanExactly =
    (planning calendar book table : List ℕ) → is_accepted (open_answer planning calendar book table) ≡ true
    → (sorted_rows (plan_of planning calendar) ≡ true)
    × ((b : List ℕ) → Some (λ (x : List ℕ). x ≡ b) (plan_of planning calendar)
    ↔ Some (λ (p : List ℕ). Some (λ (v : List ℕ). (matches p v ≡ true) × (plan_body p v ≡ b)) (data_rows Tables.Calendar (items_of Tables.Calendar calendar)))
    (data_rows Tables.Planning (items_of Tables.Planning planning)))

-- open's answer hangs on what it is lent by the lengths alone: old contents are not read
abbrev pub OpenReadsLengths : Type 0
OpenReadsLengths =
    (planning calendar book book' table table' : List ℕ) → length book ≡ length book' → length table ≡ length table'
    → open_answer planning calendar book table ≡ open_answer planning calendar book' table'

-- a withdrawal is accepted exactly when book and table are sound, there is such a message, the sender is its own or the desk, it stands, and
-- the table has room for its rows afterwards
abbrev pub WithdrawAcceptedExactly : Type 0
WithdrawAcceptedExactly =
    (book table : List ℕ) (number sender : ℕ) (c : Counts)
    → (is_accepted (withdraw_answer number sender book table c) ≡ true)
    ↔ ((book_sound c.used book ≡ true) × (table_sound c.rows table ≡ true)
    × ((e : List ℕ) × (es : List (List ℕ)) × (message_entries number (updates_in c.used book) ≡ e ∷ es)
    × ((eqb sender 0 || eqb sender (sender_of e)) ≡ true) × (eqb (kind_of e) 3 ≡ false))
    × (length (rows_without number book c.used table c.rows) ≤ table_room table))

-- in the book an accepted withdrawal changes the kind of the message's entries, to 3, and no other byte
abbrev pub WithdrawMarksEntries : Type 0
WithdrawMarksEntries =
    (book table : List ℕ) (number sender : ℕ) (c : Counts) → is_accepted (withdraw_answer number sender book table c) ≡ true
    → let left = withdraw_leaves number sender book table c in
    (left.outcome.counts.used ≡ c.used)
    × (left.book ≡ take (plan_count c.used book * plan_wide) book ++ (flat (map (λ (e : List ℕ). on (eqb (number_of e) number) (3 ∷ drop 1 e) e) (updates_in c.used book)) ++ drop c.used book))

-- each passage that an entry of the withdrawn message names becomes what the plan and the standing rows of all other messages make of its key,
-- whether book and table agreed or not; every other passage is as it was
abbrev pub WithdrawWorksOutAgain : Type 0
WithdrawWorksOutAgain =
    (book table : List ℕ) (number sender : ℕ) (c : Counts) → is_accepted (withdraw_answer number sender book table c) ≡ true
    → let left = withdraw_leaves number sender book table c in
    let us = updates_in c.used book in
    let afterwards = rows_of row_wide left.outcome.counts.rows left.table in
    ((i : ℕ) → i < length us → number_of (get_or us i []) ≡ number
    → let k = key_of (entry_body (get_or us i [])) in
    get k afterwards ≡ replayed row_rule k (get k (plan_rows (plan_bodies c.used book))) (standing (others number us)))
    × ((k : List ℕ) → Each (λ (e : List ℕ). number_of e ≡ number → key_of (entry_body e) ≡ k → ⊥) us
    → get k afterwards ≡ get k (rows_of row_wide c.rows table))

-- all of these
abbrev pub All : Type 0
All =
    AcceptanceIsZero
    × RefusalsGiveBack
    × NumbersListed
    × NumbersAreTables
    × MessageAcceptedExactly
    × KeyIsSevenFields
    × RowsChangeTheirPassage
    × RowsAreDataLines
    × OldFormAnswers
    × FormsTakenAlike
    × MessageNumbered
    × RowsGoToBook
    × TableFreedAndKept
    × OpenAcceptedExactly
    × OpenLeavesPlan
    × PlanExactly
    × OpenReadsLengths
    × WithdrawAcceptedExactly
    × WithdrawMarksEntries
    × WithdrawWorksOutAgain
    × EndGivesBack
    × EndNumbersListed
    × EndNumbersAreTable
    × UnknownFormExactly
