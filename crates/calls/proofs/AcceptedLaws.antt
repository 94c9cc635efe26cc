-- Demand 2: exactly when a message or a withdrawal is accepted. Assumes nothing.
use Prim.Native.Nat.{ℕ, ◌+◌, ◌*◌, ◌≤◌}
use native.Mathlib.Omega.{arith}
use mathlib.Core.Path.{◌≡◌, refl, ap}
use mathlib.Core.Bool.{Bool, true, false, ◌&&◌, ◌||◌}
use mathlib.Core.List.{List, [], ◌∷◌}
use borrow.Author.Tests.{leb-true, le-leb}
use lib.Dec.{eqb, leb}
use lib.ListN.{length}
use Rattle.std.specs.Prelude.{Ok, Err}
use Rattle.lists.specs.Logic.{on}
use Rattle.lists.proofs.LogicLaws.{and-pass}
use Rattle.register.specs.Register.{register_sound}
use Rattle.columns.specs.Tables.{is_form}
use Rattle.reader.specs.declared.Fault.TheVariants as Faults
use Rattle.reader.specs.Rules.{Reading, reading_of}
use Rattle.reader.proofs.AnswerLaws.{accepted}
use Rattle.table.specs.Rules.{table_sound, table_room}
use Rattle.book.specs.Entries.{entry_wide, sender_of, kind_of, updates_in}
use Rattle.book.specs.Rules.{book_sound, book_room, message_entries}
use Rattle.calls.specs.declared.Refusal.TheVariants.{Unsound, BookShort, TableShort, AlreadyWithdrawn, OtherSender, UnknownForm}
use Rattle.calls.specs.declared.Counts.{Counts}
use Rattle.calls.specs.Answers.{Answer, is_accepted, unless_refused}
use Rattle.calls.specs.Message.{message_sound, message_table, message_rows, number_for, rows_taken, room_for, message_answer}
use Rattle.calls.specs.Withdraw.{withdraw_sound, rows_without, unless_barred, room_without, withdraw_answer}
use Rattle.calls.specs.Claims.{MessageAcceptedExactly, WithdrawAcceptedExactly}

-- ---- a choice between what may be accepted and a refusal

pub first_of : (b : Bool) (a x : Answer) → is_accepted x ≡ false → is_accepted (on b a x) ≡ true → (b ≡ true) × (is_accepted a ≡ true)
first_of true a x r e = (refl, e)
first_of false a x r e = absurd (let z : ◌≡◌ {A = ℕ} 0 1 = cc in omega arith)

-- only rows go on
pub read-on : (w : ℕ) (r : Reading) (next : Answer) → is_accepted (unless_refused w r next) ≡ true → ((n : ℕ) × (r ≡ Ok n)) × (is_accepted next ≡ true)
read-on w (Err f) next e = absurd (let z : ◌≡◌ {A = ℕ} 0 1 = cc in omega arith)
read-on w (Ok n) next e = ((n, refl), e)

-- ---- message

module _ (d register book table : List ℕ) (sender form : ℕ) (c : Counts) where
  abbrev bodies : List (List ℕ)
  bodies = message_rows form d

  abbrev fits : Bool
  fits = leb (c.used + length bodies * entry_wide) (book_room book)

  abbrev holds : Bool
  holds = leb (length (rows_taken bodies table c.rows)) (table_room table)

  -- what an accepted message passed
  pub record Passed : Type 0 where
    pub sound : message_sound register book table c ≡ true
    pub known : is_form form ≡ true
    pub rows : (n : ℕ) × (reading_of (message_table form) register sender d ≡ Ok n)
    pub in-book : c.used + length bodies * entry_wide ≤ book_room book
    pub in_table : length (rows_taken bodies table c.rows) ≤ table_room table

  pub passed : is_accepted (message_answer d sender form register book table c) ≡ true → Passed
  unfolding message_answer room_for
  passed e =
      let read = unless_refused 0 (reading_of (message_table form) register sender d) (room_for bodies book table c) in
      let s = first_of (message_sound register book table c) (on (is_form form) read (Err UnknownForm)) (Err Unsound) refl e in
      let k = first_of (is_form form) read (Err UnknownForm) refl s.1 in
      let r = read-on 0 (reading_of (message_table form) register sender d) (room_for bodies book table c) k.1 in
      let b = first_of fits (on holds (Ok (number_for bodies c.used book)) (Err TableShort)) (Err BookShort) refl r.1 in
      let t = first_of holds (Ok (number_for bodies c.used book)) (Err TableShort) refl b.1 in
      record { sound = s.0; known = k.0; rows = r.0; in-book = leb-true _ _ b.0; in_table = leb-true _ _ t.0 }

  -- and it is accepted with its number
  pub passes : Passed → message_answer d sender form register book table c ≡ Ok (number_for bodies c.used book)
  unfolding message_answer room_for
  passes p = rw (p.sound, p.known, p.rows.1, le-leb _ _ p.in-book, le-leb _ _ p.in_table)

  pub sound-parts : message_sound register book table c ≡ true → (register_sound register ≡ true) × (book_sound c.used book ≡ true) × (table_sound c.rows table ≡ true)
  unfolding message_sound
  sound-parts e =
      let p = and-pass (register_sound register) (book_sound c.used book && table_sound c.rows table) e in
      let q = and-pass (book_sound c.used book) (table_sound c.rows table) p.1 in
      (p.0, q.0, q.1)

  parts-sound : register_sound register ≡ true → book_sound c.used book ≡ true → table_sound c.rows table ≡ true → message_sound register book table c ≡ true
  unfolding message_sound
  parts-sound a b t = rw (a, b, t)

pub message-exactly : MessageAcceptedExactly
message-exactly d register book table sender form c = (
  λ e.
      let p = passed d register book table sender form c e in
      let s = sound-parts d register book table sender form c p.sound in
      let r = (accepted (message_table form) register sender d).0 p.rows in
      (s.0, s.1, s.2, leb-true _ _ p.known, r.0, r.1, r.2, r.3, r.4, r.5, p.in-book, p.in_table),
  λ f.
      let s = parts-sound d register book table sender form c f.0 f.1 f.2 in
      let r = (accepted (message_table form) register sender d).1 (f.4, f.5, f.6, f.7, f.8, f.9) in
      ap is_accepted (passes d register book table sender form c (record { sound = s; known = le-leb _ _ f.3; rows = r; in-book = f.10; in_table = f.11 })),
)

-- ---- withdraw

module _ (book table : List ℕ) (number sender : ℕ) (c : Counts) where
  abbrev us : List (List ℕ)
  us = updates_in c.used book

  abbrev remains : Bool
  remains = leb (length (rows_without number book c.used table c.rows)) (table_room table)

  -- a message that the sender may withdraw and that stands
  abbrev pub Standing : List (List ℕ) → Type 0
  Standing ms = (e : List ℕ) × (es : List (List ℕ)) × (ms ≡ e ∷ es) × ((eqb sender 0 || eqb sender (sender_of e)) ≡ true) × (eqb (kind_of e) 3 ≡ false)

  unbarred : (ms : List (List ℕ)) (next : Answer) → is_accepted (unless_barred ms sender next) ≡ true → Standing ms × (is_accepted next ≡ true)
  unbarred [] next e = absurd (let z : ◌≡◌ {A = ℕ} 0 1 = cc in omega arith)
  unbarred (m ∷ ms) next e =
      let p = first_of (eqb sender 0 || eqb sender (sender_of m)) (on (eqb (kind_of m) 3) (Err AlreadyWithdrawn) next) (Err OtherSender) refl e in
      go (eqb (kind_of m) 3) refl p.0 p.1
    where
      go : (b : Bool) → eqb (kind_of m) 3 ≡ b → (eqb sender 0 || eqb sender (sender_of m)) ≡ true → is_accepted (on b (Err AlreadyWithdrawn) next) ≡ true → Standing (m ∷ ms) × (is_accepted next ≡ true)
      go true q h k = absurd (let z : ◌≡◌ {A = ℕ} 0 1 = cc in omega arith)
      go false q h k = ((m, ms, refl, h, q), k)

  -- what an accepted withdrawal passed
  pub record Left : Type 0 where
    pub book-sound : book_sound c.used book ≡ true
    pub table-sound : table_sound c.rows table ≡ true
    pub stands : Standing (message_entries number us)
    pub in_table : length (rows_without number book c.used table c.rows) ≤ table_room table

  pub left : is_accepted (withdraw_answer number sender book table c) ≡ true → Left
  unfolding withdraw_answer withdraw_sound room_without
  left e =
      let s = first_of (withdraw_sound book table c) (unless_barred (message_entries number us) sender (on remains (Ok 0) (Err TableShort))) (Err Unsound) refl e in
      let q = and-pass (book_sound c.used book) (table_sound c.rows table) s.0 in
      let u = unbarred (message_entries number us) (on remains (Ok 0) (Err TableShort)) s.1 in
      let t = first_of remains (Ok 0) (Err TableShort) refl u.1 in
      record { book-sound = q.0; table-sound = q.1; stands = u.0; in_table = leb-true _ _ t.0 }

  without : Left → withdraw_answer number sender book table c ≡ Ok 0
  unfolding withdraw_answer withdraw_sound room_without
  without p = rw (p.book-sound, p.table-sound, p.stands.2, p.stands.3, p.stands.4, le-leb _ _ p.in_table)

pub withdraw-exactly : WithdrawAcceptedExactly
withdraw-exactly book table number sender c = (
  λ e. let p = left book table number sender c e in (p.book-sound, p.table-sound, p.stands, p.in_table),
  λ f. ap is_accepted (without book table number sender c (record { book-sound = f.0; table-sound = f.1; stands = f.2; in_table = f.3 })),
)
