-- The numbers of each call's answer are the first line of document 01's table that holds. Assumes nothing.
use Prim.Native.Nat.{ℕ, ◌+◌, ◌*◌}
use native.Mathlib.Omega.{arith}
use mathlib.Core.Path.{◌≡◌, refl, ap, ◌∙◌, subst}
use mathlib.Core.Bool.{Bool, true, false, not, ◌||◌}
use mathlib.Core.List.{List, [], ◌∷◌}
use borrow.Author.Tests.{leb-true, leb-false, le-ltb, lt-ltb}
use lib.Dec.{eqb, leb, ltb}
use lib.ListN.{length, get_or}
use Rattle.std.specs.Prelude.{Ok, Err}
use Rattle.lists.specs.Logic.{on, Line, first_held}
use Rattle.columns.specs.declared.Table.TheVariants as Tables
use Rattle.columns.specs.Tables.{is_form}
use Rattle.reader.specs.declared.Fault.TheVariants as Faults
use Rattle.reader.specs.Rules.{Reading, reading_of}
use Rattle.reader.specs.Numbers.{reading_numbers, reading_table}
use Rattle.reader.proofs.LookLaws.{numbers-by-table}
use Rattle.table.specs.Rules.{table_room}
use Rattle.book.specs.Entries.{plan_wide, entry_wide, kind_of, sender_of, updates_in}
use Rattle.book.specs.Rules.{book_room, message_entries}
use Rattle.calls.specs.declared.Refusal.TheVariants.{Unsound, BookShort, TableShort, KeyTwice, AlreadyWithdrawn, OtherSender, UnknownForm}
use Rattle.calls.specs.declared.Counts.{Counts}
use Rattle.calls.specs.declared.Outcome.{Outcome}
use Rattle.calls.specs.Answers.{Answer, numbers, unless_refused}
use Rattle.calls.specs.Leaves.{Leaves, leaves}
use Rattle.calls.specs.Message.{message_sound, message_table, message_rows, number_for, rows_taken, room_for, message_answer, taken_by, message_leaves}
use Rattle.calls.specs.Withdraw.{withdraw_sound, rows_without, unless_barred, room_without, withdraw_answer, without_by, withdraw_leaves}
use Rattle.calls.specs.Open.{passages_of, plan_of, room_to_open, open_answer, opened_by, open_leaves}
use Rattle.calls.specs.Numbers.{line, dossier_lines, none, message_numbers, withdraw_numbers, open_numbers}
use Rattle.calls.specs.Claims.{NumbersAreTables}
use Rattle.calls.proofs.RefusalLaws.{owner_free, reading-free}

abbrev pub Four : Type 0
Four = ℕ × ℕ × ℕ × ℕ

abbrev pub Lines : Type 0
Lines = List (Line Four)

-- too many for the room
pub too_many : (n room : ℕ) → ltb room n ≡ not (leb n room)
too_many n room = go (leb n room) refl
  where
    go : (b : Bool) → leb n room ≡ b → ltb room n ≡ not b
    go true e = le-ltb room n (leb-true n room e)
    go false e = lt-ltb room n (leb-false n room e)

-- a line before others
pub sound-first : (s : Bool) (a : Answer) (ls : Lines) (z : Four) → numbers a ≡ first_held ls z → numbers (on s a (Err Unsound)) ≡ first_held (line 1 (not s) ∷ ls) z
sound-first true a ls z h = h
sound-first false a ls z h = refl

pub known-first : (k : Bool) (a : Answer) (ls : Lines) (z : Four) → numbers a ≡ first_held ls z → numbers (on k a (Err UnknownForm)) ≡ first_held (line 18 (not k) ∷ ls) z
known-first true a ls z h = h
known-first false a ls z h = refl

-- a message's dossier before others
pub message-first : (r : Reading) (a : Answer) (ls : Lines) (z : Four) → numbers a ≡ first_held ls z → numbers (unless_refused 0 r a) ≡ first_held (dossier_lines 0 (reading_numbers r) ∷ ls) z
message-first (Err Faults.TooLong) a ls z h = refl
message-first (Err (Faults.Syntax i)) a ls z h = refl
message-first (Err (Faults.Long l)) a ls z h = refl
message-first (Err (Faults.Form l)) a ls z h = refl
message-first (Err (Faults.Field l c)) a ls z h = refl
message-first (Err (Faults.Owner l)) a ls z h = refl
message-first (Ok n) a ls z h = h

-- a dossier without owners before others, whichever it is
dossier-first : (w : ℕ) (r : Reading) (a : Answer) (ls : Lines) (z : Four) → owner_free r ≡ true → numbers a ≡ first_held ls z → numbers (unless_refused w r a) ≡ first_held (dossier_lines w (reading_numbers r) ∷ ls) z
dossier-first w (Err Faults.TooLong) a ls z f h = refl
dossier-first w (Err (Faults.Syntax i)) a ls z f h = refl
dossier-first w (Err (Faults.Long l)) a ls z f h = refl
dossier-first w (Err (Faults.Form l)) a ls z f h = refl
dossier-first w (Err (Faults.Field l c)) a ls z f h = refl
dossier-first w (Err (Faults.Owner l)) a ls z f h = absurd (let z : ◌≡◌ {A = ℕ} 0 1 = cc in omega arith)
dossier-first w (Ok n) a ls z f h = h

-- the dossier's numbers by their own table
pub by-table : (w : ℕ) (r : Reading) (k : ℕ × ℕ × ℕ) (a : Answer) (ls : Lines) (z : Four) → reading_numbers r ≡ k
    → numbers (unless_refused w r a) ≡ first_held (dossier_lines w (reading_numbers r) ∷ ls) z → numbers (unless_refused w r a) ≡ first_held (dossier_lines w k ∷ ls) z
by-table w r k a ls z e h = subst (λ (x : ℕ × ℕ × ℕ). numbers (unless_refused w r a) ≡ first_held (dossier_lines w x ∷ ls) z) e h

-- ---- message

pub rooms : (p q : Bool) (n : ℕ) → numbers (on p (on q (Ok n) (Err TableShort)) (Err BookShort)) ≡ first_held (line 7 (not p) ∷ line 8 (not q) ∷ []) (0, n, 0, 0)
rooms true true n = refl
rooms true false n = refl
rooms false q n = refl

message-numbers : (dossier register book table : List ℕ) (sender form : ℕ) (c : Counts) → numbers (message_answer dossier sender form register book table c) ≡ message_numbers dossier sender form register book table c
unfolding message_answer room_for message_numbers
message-numbers dossier register book table sender form c =
    let bodies = message_rows form dossier in
    let entries = c.used + length bodies * entry_wide in
    let rows = length (rows_taken bodies table c.rows) in
    let r = reading_of (message_table form) register sender dossier in
    let n = number_for bodies c.used book in
    let last = line 7 (ltb (book_room book) entries) ∷ line 8 (ltb (table_room table) rows) ∷ [] in
    let read = dossier_lines 0 (reading_table (message_table form) register sender dossier) ∷ last in
    sound-first (message_sound register book table c) _ (line 18 (not (is_form form)) ∷ read) (0, n, 0, 0)
    (known-first (is_form form) _ read (0, n, 0, 0)
    (by-table 0 r _ _ last (0, n, 0, 0) (numbers-by-table (message_table form) register sender dossier)
    (message-first r _ last (0, n, 0, 0)
    (rw (too_many entries (book_room book), too_many rows (table_room table)) (rooms (leb entries (book_room book)) (leb rows (table_room table)) n)))))

-- ---- withdraw

-- the lines of a withdrawal but for the first
abbrev barred_lines : List (List ℕ) → ℕ → Bool → Lines
barred_lines es sender q =
    line 10 (none es)
    ∷ line 12 (not (eqb sender 0 || eqb sender (sender_of (get_or es 0 []))))
    ∷ line 11 (eqb (kind_of (get_or es 0 [])) 3)
    ∷ line 8 q
    ∷ []

barred : (es : List (List ℕ)) (sender : ℕ) (q : Bool) → numbers (unless_barred es sender (on q (Ok 0) (Err TableShort))) ≡ first_held (barred_lines es sender (not q)) (0, 0, 0, 0)
barred [] sender q = refl
barred (e ∷ es) sender q = go (eqb sender 0 || eqb sender (sender_of e)) (eqb (kind_of e) 3) q
  where
    go : (own gone fits : Bool) → numbers (on own (on gone (Err AlreadyWithdrawn) (on fits (Ok 0) (Err TableShort))) (Err OtherSender))
        ≡ first_held (line 12 (not own) ∷ line 11 gone ∷ line 8 (not fits) ∷ []) (0, 0, 0, 0)
    go true true fits = refl
    go true false true = refl
    go true false false = refl
    go false gone fits = refl

withdraw-numbers : (book table : List ℕ) (number sender : ℕ) (c : Counts) → numbers (withdraw_answer number sender book table c) ≡ withdraw_numbers number sender book table c
unfolding withdraw_answer room_without withdraw_numbers
withdraw-numbers book table number sender c =
    let es = message_entries number (updates_in c.used book) in
    let rows = length (rows_without number book c.used table c.rows) in
    sound-first (withdraw_sound book table c) _ (barred_lines es sender (ltb (table_room table) rows)) (0, 0, 0, 0)
    (rw (too_many rows (table_room table)) (barred es sender (leb rows (table_room table))))

-- ---- open

open-rooms : (p q r : Bool) → numbers (on p (on q (on r (Ok 0) (Err TableShort)) (Err KeyTwice)) (Err BookShort)) ≡ first_held (line 7 (not p) ∷ line 9 (not q) ∷ line 8 (not r) ∷ []) (0, 0, 0, 0)
open-rooms true true true = refl
open-rooms true true false = refl
open-rooms true false r = refl
open-rooms false q r = refl

open-numbers : (planning calendar book table : List ℕ) → numbers (open_answer planning calendar book table) ≡ open_numbers planning calendar book table
unfolding open_answer room_to_open open_numbers plan_of
open-numbers planning calendar book table =
    let pairs = length (passages_of planning calendar) in
    let once = eqb (length (plan_of planning calendar)) pairs in
    let days = reading_of Tables.Calendar [] 0 calendar in
    let last = line 7 (ltb (book_room book) (pairs * plan_wide)) ∷ line 9 (not once) ∷ line 8 (ltb (table_room table) pairs) ∷ [] in
    let times = reading_of Tables.Planning [] 0 planning in
    let both = dossier_lines 2 (reading_table Tables.Calendar [] 0 calendar) ∷ last in
    by-table 1 times _ _ both (0, 0, 0, 0) (numbers-by-table Tables.Planning [] 0 planning)
    (dossier-first 1 times _ both (0, 0, 0, 0) (reading-free Tables.Planning (λ body. refl) planning)
    (by-table 2 days _ _ last (0, 0, 0, 0) (numbers-by-table Tables.Calendar [] 0 calendar)
    (dossier-first 2 days _ last (0, 0, 0, 0) (reading-free Tables.Calendar (λ body. refl) calendar)
    (rw (too_many (pairs * plan_wide) (book_room book), too_many pairs (table_room table)) (open-rooms (leb (pairs * plan_wide) (book_room book)) once (leb pairs (table_room table)))))))

pub numbers-are-tables : NumbersAreTables
numbers-are-tables planning calendar dossier register book table number sender form c =
    (open-numbers planning calendar book table, message-numbers dossier register book table sender form c, withdraw-numbers book table number sender c)

-- ---- what a call leaves has these numbers

pub message-told : (dossier : List ℕ) (sender form : ℕ) (register book table : List ℕ) (c : Counts) (r : Outcome) (b t : List ℕ) → leaves r b t ≡ message_leaves dossier sender form register book table c
    → (leaves r b t ≡ message_leaves dossier sender form register book table c) × (numbers r.answer ≡ message_numbers dossier sender form register book table c)
unfolding message_leaves taken_by
message-told dossier sender form register book table c r b t e =
    (e, ap (λ (l : Leaves). numbers l.outcome.answer) e ∙ message-numbers dossier register book table sender form c)

pub withdraw-told : (number sender : ℕ) (book table : List ℕ) (c : Counts) (r : Outcome) (b t : List ℕ) → leaves r b t ≡ withdraw_leaves number sender book table c
    → (leaves r b t ≡ withdraw_leaves number sender book table c) × (numbers r.answer ≡ withdraw_numbers number sender book table c)
unfolding withdraw_leaves without_by
withdraw-told number sender book table c r b t e =
    (e, ap (λ (l : Leaves). numbers l.outcome.answer) e ∙ withdraw-numbers book table number sender c)

pub open_told : (planning calendar book table : List ℕ) (c : Counts) (r : Outcome) (b t : List ℕ) → leaves r b t ≡ open_leaves planning calendar book table c
    → (leaves r b t ≡ open_leaves planning calendar book table c) × (numbers r.answer ≡ open_numbers planning calendar book table)
unfolding open_leaves opened_by
open_told planning calendar book table c r b t e =
    (e, ap (λ (l : Leaves). numbers l.outcome.answer) e ∙ open-numbers planning calendar book table)
