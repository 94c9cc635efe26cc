-- Demand 2: every byte that an accepted message leaves, and the table's bytes after a withdrawal. Assumes nothing.
use Prim.Native.Nat.{ℕ, ◌+◌, ◌*◌, ◌≤◌, ◌<◌}
use native.Mathlib.Omega.{arith}
use mathlib.Core.Path.{◌≡◌, refl, ap, ◌∙◌}
use mathlib.Core.Bool.{true}
use mathlib.Core.List.{List, [], ◌∷◌, ◌++◌, map}
use borrow.Author.Tests.{eq-eqb, ne_eqb}
use lib.ListN.{length, take, drop}
use Rattle.lists.specs.BigEndian.{spelled}
use Rattle.lists.specs.Rows.{rows_of, flat, store, Wide}
use Rattle.lists.proofs.OverLaws.{over-nil, over-fits}
use Rattle.lists.proofs.RowLaws.{length-rows_of}
use Rattle.lists.proofs.StoreLaws.{store_same, store-behind, store-freed, length-store}
use Rattle.lists.proofs.WideLaws.{wide-rows_of, length-flat}
use Rattle.passage.specs.Layout.{body_wide, row_wide}
use Rattle.keys.specs.Replay.{taken_all}
use Rattle.keys.proofs.ReplayLaws.{length-taken_all-least}
use Rattle.update.specs.Rule.{row_rule}
use Rattle.table.proofs.SoundLaws.{sound-fits}
use Rattle.book.specs.Entries.{entry_wide, entry_of, entries_of, updates_in}
use Rattle.book.specs.Rules.{book_room, next_number}
use Rattle.book.proofs.SoundLaws.{room_within}
use Rattle.book.proofs.WriteLaws.{wide-entries_of, length-entries_of}
use Rattle.calls.specs.declared.Counts.{Counts}
use Rattle.calls.specs.Answers.{numbers, is_accepted}
use Rattle.calls.specs.Message.{message_rows, next_in, number_for, rows_taken, book_taking, table_taking, counts_taking, message_answer, taken_by, message_leaves}
use Rattle.calls.specs.Withdraw.{rows_without, withdraw_answer, table_without, without_by, withdraw_leaves}
use Rattle.calls.specs.Claims.{RowsAreDataLines, MessageNumbered, RowsGoToBook, FreedAndKept, TableFreedAndKept}
use Rattle.calls.proofs.AcceptedLaws.{passed, passes, sound-parts, left}
use Rattle.calls.proofs.TakenLaws.{message-wide, taken-wide}
use Rattle.calls.proofs.AgainLaws.{without-wide}

pub rows-are-lines : RowsAreDataLines
unfolding message_rows
rows-are-lines form d = refl

-- ---- number

-- no rows change nothing
none-book : (n : ℕ) (bodies : List (List ℕ)) → length bodies ≡ 0 → (sender : ℕ) (book : List ℕ) (used : ℕ) → book_taking n bodies sender book used ≡ book
unfolding book_taking entries_of flat
none-book n [] h sender book used = over-nil used book
none-book n (b ∷ bs) h sender book used = absurd (omega arith)

none-table : (bodies : List (List ℕ)) → length bodies ≡ 0 → (table : List ℕ) (n : ℕ) → table_taking bodies table n ≡ table
unfolding table_taking taken_all
none-table [] h table n = store_same row_wide n table
none-table (b ∷ bs) h table n = absurd (omega arith)

none-counts : (bodies : List (List ℕ)) → length bodies ≡ 0 → (table : List ℕ) (c : Counts) → counts_taking bodies table c ≡ c
unfolding taken_all
none-counts [] h table c =
    let u : c.used + 0 * entry_wide ≡ c.used = omega arith in
    let r = length-rows_of row_wide c.rows table in
    λ i. record { used = u i; rows = r i }
none-counts (b ∷ bs) h table c = absurd (omega arith)

number-none : (bodies : List (List ℕ)) (used : ℕ) (book : List ℕ) → length bodies ≡ 0 → number_for bodies used book ≡ 0
number-none bodies used book h = rw (eq-eqb (length bodies) 0 h)

number-some : (bodies : List (List ℕ)) (used : ℕ) (book : List ℕ) → 0 < length bodies → number_for bodies used book ≡ next_number (updates_in used book)
number-some bodies used book h = let k : length bodies ≡ 0 → ⊥ = λ z. omega arith in rw (ne_eqb (length bodies) 0 k)

pub message-numbered : MessageNumbered
unfolding message_leaves taken_by
message-numbered d register book table sender form c e =
    let a = passes d register book table sender form c (passed d register book table sender form c e) in
    let n = ap (λ x. (numbers x).1) a in (
      λ h. (
        n ∙ number-none (message_rows form d) c.used book h,
        rw e (none-counts (message_rows form d) h table c),
        rw e (none-book (next_in c.used book) (message_rows form d) h sender book c.used),
        rw e (none-table (message_rows form d) h table c.rows),
      ),
      λ h. n ∙ number-some (message_rows form d) c.used book h,
    )

-- ---- book

entries-are : (n sender : ℕ) (bodies : List (List ℕ)) → entries_of n sender bodies ≡ map (λ (row : List ℕ). 2 ∷ spelled 4 n ++ sender ∷ row) bodies
unfolding entries_of entry_of
entries-are n sender bodies = refl

book-taken : (n : ℕ) (bodies : List (List ℕ)) (sender : ℕ) (book : List ℕ) (used : ℕ) → Wide body_wide bodies → used + length bodies * entry_wide ≤ book_room book
    → book_taking n bodies sender book used
    ≡ take used book ++ (flat (map (λ (row : List ℕ). 2 ∷ spelled 4 n ++ sender ∷ row) bodies) ++ drop (used + length bodies * entry_wide) book)
unfolding book_taking
book-taken n bodies sender book used w h =
    let l : length (flat (entries_of n sender bodies)) ≡ length bodies * entry_wide =
    length-flat entry_wide (entries_of n sender bodies) (wide-entries_of n sender bodies w) ∙ ap (λ (m : ℕ). m * entry_wide) (length-entries_of n sender bodies) in
    let r = (room_within book).0 in
    over-fits used (flat (entries_of n sender bodies)) book (omega arith)
    ∙ ap (λ (m : ℕ). take used book ++ (flat (entries_of n sender bodies) ++ drop (used + m) book)) l
    ∙ ap (λ (es : List (List ℕ)). take used book ++ (flat es ++ drop (used + length bodies * entry_wide) book)) (entries-are n sender bodies)

pub rows-to-book : RowsGoToBook
unfolding message_leaves taken_by
rows-to-book d register book table sender form c e =
    let p = passed d register book table sender form c e in
    rw e (refl, book-taken (next_in c.used book) (message_rows form d) sender book c.used (message-wide form register sender d p.rows.0 p.rows.1) p.in-book)

-- ---- table

stored : (n : ℕ) (rs : List (List ℕ)) (t : List ℕ) → Wide row_wide rs → n * row_wide ≤ length t → FreedAndKept n (length rs) t (store row_wide n rs t)
stored n rs t w h = (length-store row_wide n rs t, λ a. store-freed row_wide n rs t w a h, λ i a b. store-behind row_wide n rs t w i a b)

message-kept : (d register book table : List ℕ) (sender form : ℕ) (c : Counts) → is_accepted (message_answer d sender form register book table c) ≡ true
    → (c.rows ≤ (message_leaves d sender form register book table c).outcome.counts.rows)
    × FreedAndKept c.rows (message_leaves d sender form register book table c).outcome.counts.rows table (message_leaves d sender form register book table c).table
unfolding message_leaves taken_by table_taking
message-kept d register book table sender form c e =
    let p = passed d register book table sender form c e in
    let f = sound-fits c.rows table (sound-parts d register book table sender form c p.sound).2 in
    let l = length-taken_all-least row_rule (message_rows form d) (rows_of row_wide c.rows table) in
    let m : c.rows ≤ length (rows_taken (message_rows form d) table c.rows) = rw (length-rows_of row_wide c.rows table) at l in
    rw e (
      m,
      stored c.rows (rows_taken (message_rows form d) table c.rows) table
          (taken-wide (message_rows form d) (rows_of row_wide c.rows table) (message-wide form register sender d p.rows.0 p.rows.1) (wide-rows_of row_wide c.rows table f)) f,
    )

withdraw-kept : (book table : List ℕ) (n sender : ℕ) (c : Counts) → is_accepted (withdraw_answer n sender book table c) ≡ true
    → FreedAndKept c.rows (withdraw_leaves n sender book table c).outcome.counts.rows table (withdraw_leaves n sender book table c).table
unfolding withdraw_leaves without_by table_without
withdraw-kept book table n sender c e =
    let p = left book table n sender c e in
    let f = sound-fits c.rows table p.table-sound in
    rw e (stored c.rows (rows_without n book c.used table c.rows) table (without-wide book table n c p.book-sound f) f)

pub freed-and-kept : TableFreedAndKept
freed-and-kept d register book table n sender form c = (message-kept d register book table sender form c, withdraw-kept book table n sender c)
