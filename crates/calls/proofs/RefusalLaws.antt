-- Demand 1: refusals give back everything, and each number is of its call's list. Assumes nothing.
use Prim.Native.Nat.{ℕ, ◌*◌}
use native.Mathlib.Omega.{arith}
use mathlib.Core.Path.{◌≡◌, refl}
use mathlib.Core.Bool.{Bool, true, false, ◌||◌}
use mathlib.Core.List.{List, [], ◌∷◌}
use lib.Dec.{eqb, leb, ltb}
use lib.ListN.{length}
use Rattle.std.specs.Prelude.{Result, Ok, Err, ⊤}
use Rattle.lists.specs.Logic.{on}
use Rattle.syntax.specs.Machine.{fault}
use Rattle.turbo_lines.specs.Lines.{lines, first_long}
use Rattle.columns.specs.declared.Table.{Table}
use Rattle.columns.specs.declared.Table.TheVariants as Tables
use Rattle.columns.specs.Tables.{row_of, is_form}
use Rattle.reader.specs.declared.Fault.TheVariants as Faults
use Rattle.reader.specs.Items.{Item, head, row}
use Rattle.reader.specs.Rules.{Reading, largest, form_bad, is_wrong, owner_bad, first_line, is_line, faults, fault_place, answer_to, items_of, reading_of}
use Rattle.keys.specs.Sorted.{put_all}
use Rattle.table.specs.Rules.{table_room}
use Rattle.book.specs.Entries.{plan_wide, sender_of, kind_of, updates_in}
use Rattle.book.specs.Rules.{book_room, message_entries}
use Rattle.calls.specs.declared.Refusal.TheVariants.{Unsound, TooLong, Syntax, Long, Form, Field, Owner, StagingShort, BookShort, TableShort, KeyTwice, NoMessage, AlreadyWithdrawn, OtherSender, UnknownForm}
use Rattle.calls.specs.declared.Counts.{Counts}
use Rattle.calls.specs.Answers.{Answer, numbers, unless_refused}
use Rattle.calls.specs.Message.{message_sound, message_table, message_rows, number_for, room_for, message_answer, taken_by, message_leaves}
use Rattle.calls.specs.Withdraw.{withdraw_sound, unless_barred, room_without, withdraw_answer, without_by, withdraw_leaves}
use Rattle.calls.specs.Open.{passages_of, room_to_open, open_answer, opened_by, open_leaves}
use Rattle.calls.specs.Claims.{AcceptanceIsZero, RefusalsGiveBack, is_one_of, NumbersListed}
use Rattle.register.specs.Register.{may_send}

pub acceptance-is-zero : AcceptanceIsZero
acceptance-is-zero (Ok n) = (λ e. refl, λ e. refl)
acceptance-is-zero (Err Unsound) = (λ e. absurd (let z : ◌≡◌ {A = ℕ} 0 1 = cc in omega arith), λ e. absurd (omega arith))
acceptance-is-zero (Err (TooLong w)) = (λ e. absurd (let z : ◌≡◌ {A = ℕ} 0 1 = cc in omega arith), λ e. absurd (omega arith))
acceptance-is-zero (Err (Syntax i w)) = (λ e. absurd (let z : ◌≡◌ {A = ℕ} 0 1 = cc in omega arith), λ e. absurd (omega arith))
acceptance-is-zero (Err (Long l w)) = (λ e. absurd (let z : ◌≡◌ {A = ℕ} 0 1 = cc in omega arith), λ e. absurd (omega arith))
acceptance-is-zero (Err (Form l w)) = (λ e. absurd (let z : ◌≡◌ {A = ℕ} 0 1 = cc in omega arith), λ e. absurd (omega arith))
acceptance-is-zero (Err (Field l c w)) = (λ e. absurd (let z : ◌≡◌ {A = ℕ} 0 1 = cc in omega arith), λ e. absurd (omega arith))
acceptance-is-zero (Err (Owner l)) = (λ e. absurd (let z : ◌≡◌ {A = ℕ} 0 1 = cc in omega arith), λ e. absurd (omega arith))
acceptance-is-zero (Err StagingShort) = (λ e. absurd (let z : ◌≡◌ {A = ℕ} 0 1 = cc in omega arith), λ e. absurd (omega arith))
acceptance-is-zero (Err BookShort) = (λ e. absurd (let z : ◌≡◌ {A = ℕ} 0 1 = cc in omega arith), λ e. absurd (omega arith))
acceptance-is-zero (Err TableShort) = (λ e. absurd (let z : ◌≡◌ {A = ℕ} 0 1 = cc in omega arith), λ e. absurd (omega arith))
acceptance-is-zero (Err KeyTwice) = (λ e. absurd (let z : ◌≡◌ {A = ℕ} 0 1 = cc in omega arith), λ e. absurd (omega arith))
acceptance-is-zero (Err NoMessage) = (λ e. absurd (let z : ◌≡◌ {A = ℕ} 0 1 = cc in omega arith), λ e. absurd (omega arith))
acceptance-is-zero (Err AlreadyWithdrawn) = (λ e. absurd (let z : ◌≡◌ {A = ℕ} 0 1 = cc in omega arith), λ e. absurd (omega arith))
acceptance-is-zero (Err OtherSender) = (λ e. absurd (let z : ◌≡◌ {A = ℕ} 0 1 = cc in omega arith), λ e. absurd (omega arith))
acceptance-is-zero (Err UnknownForm) = (λ e. absurd (let z : ◌≡◌ {A = ℕ} 0 1 = cc in omega arith), λ e. absurd (omega arith))

pub refusals-give-back : RefusalsGiveBack
unfolding open_leaves message_leaves withdraw_leaves opened_by taken_by without_by
refusals-give-back planning calendar dossier register book table number sender form c =
    (λ e. (rw e, rw e, rw e), λ e. (rw e, rw e, rw e), λ e. (rw e, rw e, rw e))

-- ---- numbers

-- a list that has the dossier's numbers passes for a reading, if it does for what comes next
abbrev Passes : List ℕ → Answer → Type 0
Passes ns a = is_one_of ns (numbers a).0 ≡ true

abbrev opens : List ℕ
opens = 0 ∷ 2 ∷ 3 ∷ 15 ∷ 4 ∷ 5 ∷ 7 ∷ 9 ∷ 8 ∷ []

abbrev sends : List ℕ
sends = 0 ∷ 1 ∷ 18 ∷ 2 ∷ 3 ∷ 15 ∷ 4 ∷ 5 ∷ 6 ∷ 7 ∷ 8 ∷ []

message-reading : (r : Reading) (next : Answer) → Passes sends next → Passes sends (unless_refused 0 r next)
message-reading (Err Faults.TooLong) next h = refl
message-reading (Err (Faults.Syntax i)) next h = refl
message-reading (Err (Faults.Long l)) next h = refl
message-reading (Err (Faults.Form l)) next h = refl
message-reading (Err (Faults.Field l c)) next h = refl
message-reading (Err (Faults.Owner l)) next h = refl
message-reading (Ok n) next h = h

message-room : (p q : Bool) (n : ℕ) → Passes sends (on p (on q (Ok n) (Err TableShort)) (Err BookShort))
message-room true true n = refl
message-room true false n = refl
message-room false q n = refl

message-sound : (b : Bool) (a : Answer) → Passes sends a → Passes sends (on b a (Err Unsound))
message-sound true a h = h
message-sound false a h = refl

message-known : (b : Bool) (a : Answer) → Passes sends a → Passes sends (on b a (Err UnknownForm))
message-known true a h = h
message-known false a h = refl

message-numbers : (d register book table : List ℕ) (sender form : ℕ) (c : Counts) → Passes sends (message_answer d sender form register book table c)
unfolding message_answer room_for
message-numbers d register book table sender form c =
    let bodies = message_rows form d in
    message-sound (message_sound register book table c) _
    (message-known (is_form form) _
    (message-reading (reading_of (message_table form) register sender d) _
    (message-room (leb _ (book_room book)) (leb _ (table_room table)) (number_for bodies c.used book))))

-- a planning and a calendar have no owner to refuse
abbrev pub owner_free : Reading → Bool
owner_free (Err Faults.TooLong) = true
owner_free (Err (Faults.Syntax i)) = true
owner_free (Err (Faults.Long l)) = true
owner_free (Err (Faults.Form l)) = true
owner_free (Err (Faults.Field l c)) = true
owner_free (Err (Faults.Owner l)) = false
owner_free (Ok n) = true

module _ (t : Table) (free : (body : List ℕ) → may_send t [] 0 body ≡ true) where
  no-owner-bad : (x : Item) → owner_bad t [] 0 x ≡ false
  no-owner-bad (head n ls) = refl
  no-owner-bad (row n ls l) = rw (free (row_of t ls l))

  no-owner-line : (xs : List Item) → first_line (owner_bad t [] 0) xs ≡ 0
  unfolding first_line
  no-owner-line [] = refl
  no-owner-line (x ∷ xs) = rw (no-owner-bad x, no-owner-line xs)

  settled-free : (p q : Bool) (form line column rows : ℕ) → owner_free (on p (Err (Faults.Form form)) (on q (Err (Faults.Field line column)) (on (is_line 0) (Err (Faults.Owner 0)) (Ok rows)))) ≡ true
  settled-free true q form line column rows = refl
  settled-free false true form line column rows = refl
  settled-free false false form line column rows = refl

  by-syntax-free : (v : Result ⊤ ℕ) (a : Reading) → owner_free a ≡ true → owner_free (on (faults v) (Err (Faults.Syntax (fault_place v))) a) ≡ true
  by-syntax-free (Ok u) a h = h
  by-syntax-free (Err i) a h = refl

  long-free : (b : Bool) (l : ℕ) (a : Reading) → owner_free a ≡ true → owner_free (on b (Err (Faults.Long l)) a) ≡ true
  long-free true l a h = refl
  long-free false l a h = h

  size-free : (b : Bool) (a : Reading) → owner_free a ≡ true → owner_free (on b (Err Faults.TooLong) a) ≡ true
  size-free true a h = refl
  size-free false a h = h

  pub reading-free : (d : List ℕ) → owner_free (reading_of t [] 0 d) ≡ true
  unfolding reading_of answer_to
  reading-free d =
      size-free (ltb largest (length d)) _
      (by-syntax-free (fault d) _
      (long-free (is_line (first_long 1 (lines d))) _ _
      (rw (no-owner-line (items_of t d)) (settled-free (is_line (first_line (form_bad t) (items_of t d))) (is_line (first_line (is_wrong t) (items_of t d))) _ _ _ _))))

open-reading : (w : ℕ) (r : Reading) (next : Answer) → owner_free r ≡ true → Passes opens next → Passes opens (unless_refused w r next)
open-reading w (Err Faults.TooLong) next f h = refl
open-reading w (Err (Faults.Syntax i)) next f h = refl
open-reading w (Err (Faults.Long l)) next f h = refl
open-reading w (Err (Faults.Form l)) next f h = refl
open-reading w (Err (Faults.Field l c)) next f h = refl
open-reading w (Err (Faults.Owner l)) next f h = absurd (let z : ◌≡◌ {A = ℕ} 0 1 = cc in omega arith)
open-reading w (Ok n) next f h = h

open-room : (p q r : Bool) → Passes opens (on p (on q (on r (Ok 0) (Err TableShort)) (Err KeyTwice)) (Err BookShort))
open-room true true true = refl
open-room true true false = refl
open-room true false r = refl
open-room false q r = refl

open-numbers : (planning calendar book table : List ℕ) → Passes opens (open_answer planning calendar book table)
unfolding open_answer room_to_open
open-numbers planning calendar book table =
    let bodies = passages_of planning calendar in
    open-reading 1 (reading_of Tables.Planning [] 0 planning) _ (reading-free Tables.Planning (λ body. refl) planning)
    (open-reading 2 (reading_of Tables.Calendar [] 0 calendar) _ (reading-free Tables.Calendar (λ body. refl) calendar)
    (open-room (leb (length bodies * plan_wide) (book_room book)) (eqb (length (put_all bodies [])) (length bodies)) (leb (length bodies) (table_room table))))

abbrev withdraws : List ℕ
withdraws = 0 ∷ 1 ∷ 10 ∷ 12 ∷ 11 ∷ 8 ∷ []

barred : (es : List (List ℕ)) (sender : ℕ) (next : Answer) → Passes withdraws next → Passes withdraws (unless_barred es sender next)
barred [] sender next h = refl
barred (e ∷ es) sender next h = go (eqb sender 0 || eqb sender (sender_of e)) (eqb (kind_of e) 3)
  where
    go : (p q : Bool) → Passes withdraws (on p (on q (Err AlreadyWithdrawn) next) (Err OtherSender))
    go true true = refl
    go true false = h
    go false q = refl

withdraw-room : (p : Bool) → Passes withdraws (on p (Ok 0) (Err TableShort))
withdraw-room true = refl
withdraw-room false = refl

withdraw-sound : (b : Bool) (a : Answer) → Passes withdraws a → Passes withdraws (on b a (Err Unsound))
withdraw-sound true a h = h
withdraw-sound false a h = refl

withdraw-numbers : (book table : List ℕ) (number sender : ℕ) (c : Counts) → Passes withdraws (withdraw_answer number sender book table c)
unfolding withdraw_answer room_without
withdraw-numbers book table number sender c =
    withdraw-sound (withdraw_sound book table c) _
    (barred (message_entries number (updates_in c.used book)) sender _ (withdraw-room (leb _ (table_room table))))

pub numbers-listed : NumbersListed
numbers-listed planning calendar d register book table number sender form c =
    (open-numbers planning calendar book table, message-numbers d register book table sender form c, withdraw-numbers book table number sender c)
