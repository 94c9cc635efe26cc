use Prim.Native.Nat.{ℕ, ◌+◌, ◌*◌, ◌/◌, ◌≤◌, ◌<◌}
use native.Mathlib.Omega.{arith}
use mathlib.Core.Path.{◌≡◌, refl, sym, ap, ◌∙◌}
use mathlib.Core.Bool.{Bool, true, false}
use mathlib.Core.List.{List}
use mathlib.Core.Logic.{◌↔◌}
use borrow.Author.Tests.{lt-ltb, ltb-true, ltb-false, leb-true, le-leb}
use lib.Dec.{leb, ltb}
use lib.ListN.{length}
use Rattle.std.specs.Prelude.{Ok, Err}
use Rattle.lists.specs.Logic.{on}
use Rattle.lists.specs.Rows.{flat}
use Rattle.table.specs.Rules.{table_room}
use Rattle.book.specs.Entries.{entry_wide}
use Rattle.book.specs.Rules.{book_room}
use Rattle.passage.specs.Layout.{body_wide}
use Rattle.columns.specs.Tables.{is_form}
use Rattle.reader.specs.declared.Fault.TheVariants as Faults
use Rattle.reader.specs.Rules.{Reading, reading_of}
use Rattle.reader.proofs.AnswerLaws.{rows-counted}
use Rattle.feeds.specs.declared.Feed.{Feed}
use Rattle.feeds.specs.Feed.{Fed, fed}
use Rattle.feeds.specs.Kept.{kept_of, feed_of}
use Rattle.calls.specs.declared.Refusal.TheVariants.{Unsound, StagingShort, BookShort, TableShort, UnknownForm}
use Rattle.calls.specs.declared.Counts.{Counts}
use Rattle.calls.specs.Answers.{Answer, numbers, is_accepted, unless_refused}
use Rattle.calls.specs.Leaves.{Leaves}
use Rattle.calls.specs.Message.{message_sound, message_table, message_rows, number_for, rows_taken, room_for, message_answer, taken_by, message_leaves}
use Rattle.calls.specs.End.{staged_rows, end_answer, end_leaves}
use Rattle.feeds_whole.specs.Parts.{Lent, fed_from, rows_before}
use Rattle.feeds_whole.specs.Claims.{PartsAreWhole, StagingHolds}
use Rattle.feeds_whole.proofs.WholeLaws.{start, whole-fed}
use Rattle.feeds_whole.proofs.EndLaws.{area-holds, all-staged, end_is}
use Rattle.feeds_whole.proofs.PartLaws.{parts_from, parts-begun}

-- A dossier in parts against the one call on all of it. Assumes nothing.

-- ---- an answer by its lines: sound or not, what the dossier is refused for, whether the staging area is short, what comes next

abbrev answer_by : Bool → Bool → Reading → Bool → Answer → Answer
answer_by sound known r short next = on sound (on known (unless_refused 0 r (on short (Err StagingShort) next)) (Err UnknownForm)) (Err Unsound)

-- but for 14 the staging area does not matter
but-fourteen : (s k : Bool) (r : Reading) (short : Bool) (a : Answer) → ((numbers (answer_by s k r short a)).0 ≡ 14 → ⊥) → answer_by s k r short a ≡ on s (on k (unless_refused 0 r a) (Err UnknownForm)) (Err Unsound)
but-fourteen false k r short a h = refl
but-fourteen true false r short a h = refl
but-fourteen true true (Err Faults.TooLong) short a h = refl
but-fourteen true true (Err (Faults.Syntax i)) short a h = refl
but-fourteen true true (Err (Faults.Long l)) short a h = refl
but-fourteen true true (Err (Faults.Form l)) short a h = refl
but-fourteen true true (Err (Faults.Field l c)) short a h = refl
but-fourteen true true (Err (Faults.Owner l)) short a h = refl
but-fourteen true true (Ok n) true a h = absurd (h refl)
but-fourteen true true (Ok n) false a h = refl

fourteen : (s k : Bool) (r : Reading) (short : Bool) (a : Answer) → ((numbers a).0 ≡ 14 → ⊥) → (numbers (answer_by s k r short a)).0 ≡ 14
    → (s ≡ true) × (k ≡ true) × ((n : ℕ) × (r ≡ Ok n)) × (short ≡ true)
fourteen false k r short a h e = absurd (omega arith)
fourteen true false r short a h e = absurd (omega arith)
fourteen true true (Err Faults.TooLong) short a h e = absurd (omega arith)
fourteen true true (Err (Faults.Syntax i)) short a h e = absurd (omega arith)
fourteen true true (Err (Faults.Long l)) short a h e = absurd (omega arith)
fourteen true true (Err (Faults.Form l)) short a h e = absurd (omega arith)
fourteen true true (Err (Faults.Field l c)) short a h e = absurd (omega arith)
fourteen true true (Err (Faults.Owner l)) short a h e = absurd (omega arith)
fourteen true true (Ok n) true a h e = (refl, refl, (n, refl), refl)
fourteen true true (Ok n) false a h e = absurd (h e)

fourteen-back : (s k : Bool) (r : Reading) (short : Bool) (a : Answer) (n : ℕ) → s ≡ true → k ≡ true → r ≡ Ok n → short ≡ true → (numbers (answer_by s k r short a)).0 ≡ 14
fourteen-back s k r short a n p o q t = rw (p, o, q, t) refl

-- accepted only where nothing is refused
accepted-by : (s k : Bool) (r : Reading) (short : Bool) (a : Answer) → is_accepted (answer_by s k r short a) ≡ true → ((n : ℕ) × (r ≡ Ok n)) × (short ≡ false)
accepted-by false k r short a e = absurd (let z : ◌≡◌ {A = ℕ} 0 1 = cc in omega arith)
accepted-by true false r short a e = absurd (let z : ◌≡◌ {A = ℕ} 0 1 = cc in omega arith)
accepted-by true true (Err Faults.TooLong) short a e = absurd (let z : ◌≡◌ {A = ℕ} 0 1 = cc in omega arith)
accepted-by true true (Err (Faults.Syntax i)) short a e = absurd (let z : ◌≡◌ {A = ℕ} 0 1 = cc in omega arith)
accepted-by true true (Err (Faults.Long l)) short a e = absurd (let z : ◌≡◌ {A = ℕ} 0 1 = cc in omega arith)
accepted-by true true (Err (Faults.Form l)) short a e = absurd (let z : ◌≡◌ {A = ℕ} 0 1 = cc in omega arith)
accepted-by true true (Err (Faults.Field l c)) short a e = absurd (let z : ◌≡◌ {A = ℕ} 0 1 = cc in omega arith)
accepted-by true true (Err (Faults.Owner l)) short a e = absurd (let z : ◌≡◌ {A = ℕ} 0 1 = cc in omega arith)
accepted-by true true (Ok n) true a e = absurd (let z : ◌≡◌ {A = ℕ} 0 1 = cc in omega arith)
accepted-by true true (Ok n) false a e = ((n, refl), refl)

room-never : (bodies : List (List ℕ)) (book table : List ℕ) (c : Counts) → (numbers (room_for bodies book table c)).0 ≡ 14 → ⊥
unfolding room_for
room-never bodies book table c =
    go (leb (c.used + length bodies * entry_wide) (book_room book)) (leb (length (rows_taken bodies table c.rows)) (table_room table)) (number_for bodies c.used book)
  where
    go : (p q : Bool) (n : ℕ) → (numbers (on p (on q (Ok n) (Err TableShort)) (Err BookShort))).0 ≡ 14 → ⊥
    go true true n e = omega arith
    go true false n e = omega arith
    go false q n e = omega arith

-- the rows matter only where they are taken
refused-same : (a : Answer) (x y : List (List ℕ)) (sender : ℕ) (book table : List ℕ) (c : Counts) → is_accepted a ≡ false → taken_by a x sender book table c ≡ taken_by a y sender book table c
unfolding taken_by
refused-same a x y sender book table c e = rw e refl

taken-same : (a : Answer) (x y : List (List ℕ)) (sender : ℕ) (book table : List ℕ) (c : Counts) → (is_accepted a ≡ true → x ≡ y) → taken_by a x sender book table c ≡ taken_by a y sender book table c
taken-same a x y sender book table c h = go (is_accepted a) refl
  where
    go : (b : Bool) → is_accepted a ≡ b → taken_by a x sender book table c ≡ taken_by a y sender book table c
    go true e = ap (λ (r : List (List ℕ)). taken_by a r sender book table c) (h e)
    go false e = refused-same a x y sender book table c e

-- what the end leaves, but for the numbers
abbrev taking : List ℕ → List ℕ → List ℕ → List ℕ → Counts → List ℕ → Leaves
taking register staging book table c kept = taken_by (end_answer register staging book table c kept) (staged_rows staging (feed_of kept)) (feed_of kept).sender book table c

end-leaves : (register staging book table kept : List ℕ) (c : Counts)
    → let left = end_leaves register staging book table c kept in
    (left.outcome ≡ (taking register staging book table c kept).outcome)
    × (left.book ≡ (taking register staging book table c kept).book)
    × (left.table ≡ (taking register staging book table c kept).table)
    × (left.outcome.answer ≡ end_answer register staging book table c kept)
unfolding end_leaves taken_by
end-leaves register staging book table kept c = (refl, refl, refl, refl)

-- ---- the parts

module _ (parts : List (List ℕ)) (register line staging book table : List ℕ) (sender form : ℕ) (c : Counts) (low : sender < 256) (small : form < 4294967296) where
  abbrev d : List ℕ
  d = flat parts

  abbrev y : Fed
  y = fed register (start sender form staging) d

  abbrev m : Lent
  m = fed_from register sender form line staging parts

  abbrev short : Bool
  short = ltb (length staging / body_wide) (length (message_rows form d))

  abbrev said : Answer
  said = answer_by (message_sound register book table c) (is_form form) (reading_of (message_table form) register sender d) short (room_for (message_rows form d) book table c)

  feed-is : feed_of m.kept ≡ y.feed
  feed-is = ap feed_of (parts_from register sender form line staging low small parts).0 ∙ (parts-begun register sender form line staging low small parts).1

  answer-is : end_answer register m.staging book table c m.kept ≡ said
  answer-is =
      let k = parts_from register sender form line staging low small parts in
      let b = parts-begun register sender form line staging low small parts in
      ap (λ (st : List ℕ). end_answer register st book table c m.kept) k.1
      ∙ ap (end_answer register y.staging book table c) k.0
      ∙ end_is register sender form staging d y (whole-fed register sender form staging d) book table c (kept_of y.feed) b.0 b.1

  rows_same : is_accepted said ≡ true → staged_rows m.staging (feed_of m.kept) ≡ message_rows form d
  rows_same e =
      let k = parts_from register sender form line staging low small parts in
      let b = parts-begun register sender form line staging low small parts in
      let a = accepted-by (message_sound register book table c) (is_form form) (reading_of (message_table form) register sender d) short (room_for (message_rows form d) book table c) e in
      ap (λ (f : Feed). staged_rows m.staging f) feed-is
      ∙ ap (λ (st : List ℕ). staged_rows st y.feed) k.1
      ∙ all-staged register sender form staging d y (whole-fed register sender form staging d) book table c (kept_of y.feed) b.0 b.1 a.0.0 a.0.1 (ltb-false (length staging / body_wide) (length (message_rows form d)) a.1)

  whole_is : ((numbers said).0 ≡ 14 → ⊥) → taking register m.staging book table c m.kept ≡ message_leaves d sender form register book table c
  unfolding message_leaves message_answer
  whole_is h =
      ap (λ (a : Answer). taken_by a (staged_rows m.staging (feed_of m.kept)) (feed_of m.kept).sender book table c) answer-is
      ∙ ap (λ (n : ℕ). taken_by said (staged_rows m.staging (feed_of m.kept)) n book table c) (ap (λ (f : Feed). f.sender) feed-is ∙ (whole-fed register sender form staging d).sent)
      ∙ taken-same said (staged_rows m.staging (feed_of m.kept)) (message_rows form d) sender book table c rows_same
      ∙ ap (λ (a : Answer). taken_by a (message_rows form d) sender book table c) (but-fourteen (message_sound register book table c) (is_form form) (reading_of (message_table form) register sender d) short (room_for (message_rows form d) book table c) h)

  rows-n : (n : ℕ) → reading_of (message_table form) register sender d ≡ Ok n → n ≡ length (message_rows form d)
  unfolding message_rows
  rows-n n e = rows-counted (message_table form) register sender d n e

  fourteen-exactly : ((numbers said).0 ≡ 14)
      ↔ ((message_sound register book table c ≡ true) × (form ≤ 1) × ((n : ℕ) × (reading_of (message_table form) register sender d ≡ Ok n) × (length staging / body_wide < n)))
  fourteen-exactly = (to, back)
    where
      to : (numbers said).0 ≡ 14 → (message_sound register book table c ≡ true) × (form ≤ 1) × ((n : ℕ) × (reading_of (message_table form) register sender d ≡ Ok n) × (length staging / body_wide < n))
      to e =
          let k = fourteen (message_sound register book table c) (is_form form) (reading_of (message_table form) register sender d) short (room_for (message_rows form d) book table c) (room-never (message_rows form d) book table c) e in
          let more : length staging / body_wide < length (message_rows form d) = ltb-true (length staging / body_wide) (length (message_rows form d)) k.3 in
          (k.0, leb-true _ _ k.1, (k.2.0, k.2.1, omega (arith, more, rows-n k.2.0 k.2.1)))

      back : (message_sound register book table c ≡ true) × (form ≤ 1) × ((n : ℕ) × (reading_of (message_table form) register sender d ≡ Ok n) × (length staging / body_wide < n)) → (numbers said).0 ≡ 14
      back (s, o, (n, r, more)) =
          fourteen-back (message_sound register book table c) (is_form form) (reading_of (message_table form) register sender d) short (room_for (message_rows form d) book table c) n s (le-leb _ _ o) r
          (lt-ltb (length staging / body_wide) (length (message_rows form d)) (omega (arith, more, rows-n n r)))

pub parts-are-whole : PartsAreWhole
parts-are-whole parts register line staging book table sender form c low small =
    let l = end-leaves register (m parts register line staging book table sender form c low small).staging book table (m parts register line staging book table sender form c low small).kept c in
    let a = l.3 ∙ answer-is parts register line staging book table sender form c low small in
    let f = fourteen-exactly parts register line staging book table sender form c low small in (
      λ h.
          let t = whole_is parts register line staging book table sender form c low small (λ e. h (ap (λ (x : Answer). (numbers x).0) a ∙ e)) in
          (l.0 ∙ ap (λ (x : Leaves). x.outcome) t, l.1 ∙ ap (λ (x : Leaves). x.book) t, l.2 ∙ ap (λ (x : Leaves). x.table) t),
      (λ e. f.0 (sym (ap (λ (x : Answer). (numbers x).0) a) ∙ e), λ e. ap (λ (x : Answer). (numbers x).0) a ∙ f.1 e),
    )

pub staging-holds : StagingHolds
unfolding rows_before
staging-holds parts register line staging sender form low small =
    (parts_from register sender form line staging low small parts).1 ∙ area-holds register sender form staging (flat parts) (fed register (start sender form staging) (flat parts)) (whole-fed register sender form staging (flat parts))
