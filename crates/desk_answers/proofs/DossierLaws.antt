-- Which dossier an answer names. Assumes nothing.
use Prim.Native.Nat.{ℕ, ◌*◌}
use mathlib.Core.Path.{◌≡◌, refl}
use mathlib.Core.Bool.{Bool, true, false, ◌||◌}
use mathlib.Core.List.{List, [], ◌∷◌}
use lib.Dec.{eqb, leb}
use lib.ListN.{length}
use Rattle.std.specs.Prelude.{Ok, Err}
use Rattle.lists.specs.Logic.{on, within}
use Rattle.columns.specs.Tables.{is_form}
use Rattle.columns.specs.declared.Table.TheVariants as Tables
use Rattle.reader.specs.declared.Fault.TheVariants as Faults
use Rattle.reader.specs.Rules.{Reading, reading_of}
use Rattle.table.specs.Rules.{table_room}
use Rattle.keys.specs.Sorted.{put_all}
use Rattle.book.specs.Entries.{plan_wide, sender_of, kind_of, updates_in}
use Rattle.book.specs.Rules.{book_room, message_entries}
use Rattle.calls.specs.declared.Refusal.TheVariants.{Unsound, BookShort, TableShort, KeyTwice, AlreadyWithdrawn, OtherSender, UnknownForm}
use Rattle.calls.specs.declared.Counts.{Counts}
use Rattle.calls.specs.Answers.{Answer, numbers, unless_refused}
use Rattle.calls.specs.Leaves.{counts_of}
use Rattle.calls.specs.Claims.{is_one_of}
use Rattle.calls.specs.Open.{passages_of, room_to_open, open_answer, opened_by, open_leaves}
use Rattle.calls.specs.Message.{message_sound, message_table, message_rows, number_for, room_for, message_answer, taken_by, message_leaves}
use Rattle.calls.specs.Withdraw.{withdraw_sound, unless_barred, room_without, withdraw_answer, without_by, withdraw_leaves}
use Rattle.desk_answers.specs.Answered.{outcome_number, answered}
use Rattle.desk_answers.specs.Claims.{DossierNamed}

-- ---- open: 1 or 2, exactly with 2 to 5 or 15

abbrev Named : Answer → Type 0
Named a = (is_one_of (1 ∷ 2 ∷ []) (numbers a).3 ≡ (within 2 5 (numbers a).0 || eqb (numbers a).0 15)) × (is_one_of (0 ∷ 1 ∷ 2 ∷ []) (numbers a).3 ≡ true)

-- w is a dossier's number
reading-named : (w : ℕ) → (is_one_of (1 ∷ 2 ∷ []) w ≡ true) × (is_one_of (0 ∷ 1 ∷ 2 ∷ []) w ≡ true) → (r : Reading) (next : Answer) → Named next → Named (unless_refused w r next)
reading-named w p (Err Faults.TooLong) next h = p
reading-named w p (Err (Faults.Syntax i)) next h = p
reading-named w p (Err (Faults.Long l)) next h = p
reading-named w p (Err (Faults.Form l)) next h = p
reading-named w p (Err (Faults.Field l c)) next h = p
reading-named w p (Err (Faults.Owner l)) next h = (refl, refl)
reading-named w p (Ok n) next h = h

room-named : (p q r : Bool) → Named (on p (on q (on r (Ok 0) (Err TableShort)) (Err KeyTwice)) (Err BookShort))
room-named true true true = (refl, refl)
room-named true true false = (refl, refl)
room-named true false r = (refl, refl)
room-named false q r = (refl, refl)

open-named : (planning calendar book table : List ℕ) → Named (open_answer planning calendar book table)
unfolding open_answer room_to_open
open-named planning calendar book table =
    let bodies = passages_of planning calendar in
    reading-named 1 (refl, refl) (reading_of Tables.Planning [] 0 planning) _
    (reading-named 2 (refl, refl) (reading_of Tables.Calendar [] 0 calendar) _
    (room-named (leb (length bodies * plan_wide) (book_room book)) (eqb (length (put_all bodies [])) (length bodies)) (leb (length bodies) (table_room table))))

-- ---- message and withdraw: none

abbrev None : Answer → Type 0
None a = (numbers a).3 ≡ 0

sound_none : (b : Bool) (a : Answer) → None a → None (on b a (Err Unsound))
sound_none true a h = h
sound_none false a h = refl

known-none : (b : Bool) (a : Answer) → None a → None (on b a (Err UnknownForm))
known-none true a h = h
known-none false a h = refl

reading-none : (r : Reading) (next : Answer) → None next → None (unless_refused 0 r next)
reading-none (Err Faults.TooLong) next h = refl
reading-none (Err (Faults.Syntax i)) next h = refl
reading-none (Err (Faults.Long l)) next h = refl
reading-none (Err (Faults.Form l)) next h = refl
reading-none (Err (Faults.Field l c)) next h = refl
reading-none (Err (Faults.Owner l)) next h = refl
reading-none (Ok n) next h = h

rooms-none : (p q : Bool) (n : ℕ) → None (on p (on q (Ok n) (Err TableShort)) (Err BookShort))
rooms-none true true n = refl
rooms-none true false n = refl
rooms-none false q n = refl

message-none : (d register book table : List ℕ) (sender form : ℕ) (c : Counts) → None (message_answer d sender form register book table c)
unfolding message_answer room_for
message-none d register book table sender form c =
    sound_none (message_sound register book table c) _
    (known-none (is_form form) _
    (reading-none (reading_of (message_table form) register sender d) _
    (rooms-none (leb _ (book_room book)) (leb _ (table_room table)) (number_for (message_rows form d) c.used book))))

barred-none : (es : List (List ℕ)) (sender : ℕ) (next : Answer) → None next → None (unless_barred es sender next)
barred-none [] sender next h = refl
barred-none (e ∷ es) sender next h = go (eqb sender 0 || eqb sender (sender_of e)) (eqb (kind_of e) 3)
  where
    go : (p q : Bool) → None (on p (on q (Err AlreadyWithdrawn) next) (Err OtherSender))
    go true true = refl
    go true false = h
    go false q = refl

room-none : (p : Bool) → None (on p (Ok 0) (Err TableShort))
room-none true = refl
room-none false = refl

withdraw-none : (book table : List ℕ) (number sender : ℕ) (c : Counts) → None (withdraw_answer number sender book table c)
unfolding withdraw_answer room_without
withdraw-none book table number sender c =
    sound_none (withdraw_sound book table c) _
    (barred-none (message_entries number (updates_in c.used book)) sender _ (room-none (leb _ (table_room table))))

pub dossier-named : DossierNamed
unfolding outcome_number answered open_leaves opened_by message_leaves taken_by withdraw_leaves without_by
dossier-named planning calendar d register book table number sender form used rows =
    let named = open-named planning calendar book table in
    (named.0, named.1, message-none d register book table sender form (counts_of used rows), withdraw-none book table number sender (counts_of used rows))
