-- 18 is told exactly where what is lent is sound and the form is not known. Assumes nothing.
use Prim.Native.Nat.{ℕ, ◌<◌}
use native.Mathlib.Omega.{arith}
use mathlib.Core.Path.{◌≡◌, refl}
use mathlib.Core.Bool.{Bool, true, false}
use mathlib.Core.Logic.{◌↔◌}
use borrow.Author.Tests.{leb-true, leb-false, eq-eqb}
use lib.Dec.{eqb, leb}
use Rattle.std.specs.Prelude.{Ok, Err}
use Rattle.lists.specs.Logic.{on}
use Rattle.reader.specs.declared.Fault.TheVariants as Faults
use Rattle.reader.specs.Rules.{Reading, reading_of}
use Rattle.feeds.specs.Kept.{feed_of}
use Rattle.table.specs.Rules.{table_room}
use Rattle.book.specs.Rules.{book_room}
use Rattle.calls.specs.declared.Refusal.TheVariants.{Unsound, Owner, StagingShort, BookShort, TableShort, UnknownForm}
use Rattle.calls.specs.Answers.{Answer, numbers, unless_refused}
use Rattle.calls.specs.Message.{message_sound, message_table, message_rows, number_for, room_for, message_answer}
use Rattle.calls.specs.End.{staged_rows, any_denied, falls_short, end_sound, reading_kept, post_answer, end_answer}
use Rattle.calls.specs.Claims.{UnknownFormExactly}

-- an answer that is not 18
abbrev Other : Answer → Type 0
Other a = eqb (numbers a).0 18 ≡ false

other-reading : (r : Reading) (next : Answer) → Other next → Other (unless_refused 0 r next)
other-reading (Err Faults.TooLong) next h = refl
other-reading (Err (Faults.Syntax i)) next h = refl
other-reading (Err (Faults.Long l)) next h = refl
other-reading (Err (Faults.Form l)) next h = refl
other-reading (Err (Faults.Field l c)) next h = refl
other-reading (Err (Faults.Owner l)) next h = refl
other-reading (Ok n) next h = h

other-room : (p q : Bool) (n : ℕ) → Other (on p (on q (Ok n) (Err TableShort)) (Err BookShort))
other-room true true n = refl
other-room true false n = refl
other-room false q n = refl

other-post : (p q : Bool) (next : Answer) → Other next → Other (on p (Err (Owner 0)) (on q (Err StagingShort) next))
other-post true q next h = refl
other-post false true next h = refl
other-post false false next h = h

-- behind a sound state and a known form no 18 is left
exactly : (s : Bool) (form : ℕ) (a : Answer) → Other a → ((numbers (on s (on (leb form 1) a (Err UnknownForm)) (Err Unsound))).0 ≡ 18) ↔ ((s ≡ true) × (1 < form))
exactly false form a h = (λ e. absurd (omega arith), λ p. absurd (let z : ◌≡◌ {A = ℕ} 0 1 = cc in omega arith))
exactly true form a h = go (leb form 1) refl
  where
    go : (k : Bool) → leb form 1 ≡ k → ((numbers (on k a (Err UnknownForm))).0 ≡ 18) ↔ ((true ≡ true) × (1 < form))
    go true q = (
      λ e. absurd (let t = eq-eqb (numbers a).0 18 e in let z : ◌≡◌ {A = ℕ} 0 1 = cc in omega arith),
      λ p. absurd (let l = leb-true form 1 q in omega arith),
    )
    go false q = (λ e. (refl, leb-false form 1 q), λ p. refl)

pub unknown-exactly : UnknownFormExactly
unfolding message_answer end_answer post_answer room_for
unknown-exactly dossier register staging book table kept sender form c =
    let f = feed_of kept in
    let bodies = message_rows form dossier in
    let rows = staged_rows staging f in (
      exactly (message_sound register book table c) form _
          (other-reading (reading_of (message_table form) register sender dossier) _
          (other-room (leb _ (book_room book)) (leb _ (table_room table)) (number_for bodies c.used book))),
      exactly (end_sound register staging book table c kept) f.form _
          (other-reading (reading_kept f) _
          (other-post (any_denied register f.sender rows) (falls_short staging f) _
          (other-room (leb _ (book_room book)) (leb _ (table_room table)) (number_for rows c.used book)))),
    )
