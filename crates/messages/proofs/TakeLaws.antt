-- The ways out of a message whose rows are staged: no rows, no room in the book, none in the table, and acceptance. Assumes nothing.
use Prim.Native.Nat.{ℕ, ◌+◌, ◌*◌, ◌≤◌, ◌<◌}
use native.Mathlib.Omega.{arith}
use mathlib.Core.Path.{◌≡◌, refl, sym, ap, ◌∙◌}
use mathlib.Core.Bool.{true, false}
use mathlib.Core.List.{List, []}
use borrow.Author.Tests.{le-leb, lt-leb, ne_eqb}
use lib.Dec.{leb}
use lib.ListN.{length}
use Rattle.lists.specs.Rows.{rows_of, flat}
use Rattle.lists.proofs.OverLaws.{over-nil}
use Rattle.lists.proofs.StoreLaws.{store_same}
use Rattle.lists.proofs.RowLaws.{length-rows_of}
use Rattle.passage.specs.Layout.{row_wide}
use Rattle.keys.specs.Replay.{taken_all}
use Rattle.table.specs.Rules.{table_sound, table_room}
use Rattle.table.proofs.SoundLaws.{sound-within}
use Rattle.std.specs.Prelude.{Option, Some, None, Ok, Err}
use Rattle.messages_take.specs.inner.Fitting.{fitting, fitting_in}
use Rattle.messages_take.proofs.FittingLaws.{count-told, too-many-told, in-yes, in-no}
use Rattle.book.specs.Entries.{entry_wide, entries_of, updates_in}
use Rattle.book.specs.Rules.{book_sound, book_room, next_number}
use Rattle.book.proofs.SoundLaws.{sound-facts}
use Rattle.calls.specs.declared.Refusal.TheVariants.{BookShort, TableShort}
use Rattle.calls.specs.declared.Counts.{Counts}
use Rattle.calls.specs.declared.Outcome.{Outcome}
use Rattle.calls.specs.Answers.{Answer, is_accepted}
use Rattle.calls.specs.Leaves.{counts_of, outcome_of, leaves}
use Rattle.calls.specs.Message.{next_in, rows_taken, room_for, counts_taking, book_taking, table_taking, taken_by}
use Rattle.calls.proofs.LeavesLaws.{leaves-refused, leaves-accepted}
use Rattle.messages.specs.inner.Steps.{taken_leaves}

module _ (bodies : List (List ℕ)) (sender : ℕ) (book table : List ℕ) (c : Counts) where
  -- what a way out leaves
  abbrev pub Left : Outcome → List ℕ → List ℕ → Type 0
  Left r b t = leaves r b t ≡ taken_leaves bodies sender book table c

  -- a refusal
  refuses : (a : Answer) → room_for bodies book table c ≡ a → is_accepted a ≡ false → (r : Outcome) → r ≡ outcome_of a c → Left r book table
  unfolding taken_leaves taken_by
  refuses a e f r h = leaves-refused (room_for bodies book table c) a _ book table c e f r h

  -- an acceptance
  accepts : (n : ℕ) → room_for bodies book table c ≡ Ok n → (r : Outcome) (b t : List ℕ) (k : Counts) → r ≡ outcome_of (Ok n) k → k ≡ counts_taking bodies table c
      → b ≡ book_taking (next_in c.used book) bodies sender book c.used → t ≡ table_taking bodies table c.rows → Left r b t
  unfolding taken_leaves taken_by
  accepts n e r b t k h l f g = leaves-accepted (room_for bodies book table c) n _ _ e r b t k h l f g

  pub book-short : book_room book < c.used + length bodies * entry_wide → (r : Outcome) → r ≡ outcome_of (Err BookShort) c → Left r book table
  unfolding room_for
  book-short h r e = refuses (Err BookShort) (rw (lt-leb _ _ h)) refl r e

  -- the table's rows taken, or too many of them
  module _ (most : ℕ) (m : most ≡ table_room table) (f : Option ℕ) (t : List ℕ)
      (p : (f ≡ fitting most (rows_taken bodies table c.rows)) × (t ≡ fitting_in c.rows most (rows_taken bodies table c.rows) table)) where
    abbrev rs : List (List ℕ)
    rs = rows_taken bodies table c.rows

    pub table-short : c.used + length bodies * entry_wide ≤ book_room book → f ≡ None → (r : Outcome) → r ≡ outcome_of (Err TableShort) c → Left r book t
    unfolding room_for
    table-short h e r x =
        let over = too-many-told c.rows most rs table (sym p.0 ∙ e) in
        let k : leb (length rs) (table_room table) ≡ false = ap (leb (length rs)) (sym m) ∙ over in
        ap (leaves r book) (p.1 ∙ in-no c.rows most rs table over) ∙ refuses (Err TableShort) (rw (le-leb _ _ h, k)) refl r x

    pub fits : (length bodies ≡ 0 → ⊥) → c.used + length bodies * entry_wide ≤ book_room book → (n : ℕ) → f ≡ Some n → (r : Outcome) (b : List ℕ) (k : ℕ) → k ≡ length bodies
        → r ≡ outcome_of (Ok (next_number (updates_in c.used book))) (counts_of (c.used + k * entry_wide) n)
        → b ≡ book_taking (next_in c.used book) bodies sender book c.used → Left r b t
    unfolding room_for table_taking
    fits some h n e r b k l x z =
        let within = count-told c.rows most rs table n (sym p.0 ∙ e) in
        let j : leb (length rs) (table_room table) ≡ true = ap (leb (length rs)) (sym m) ∙ within.0 in
        accepts (next_number (updates_in c.used book)) (rw (le-leb _ _ h, j, ne_eqb _ _ some)) r b t _ x
        (λ i. counts_of (c.used + l i * entry_wide) (within.1 i)) z (p.1 ∙ in-yes c.rows most rs table within.0)

-- without rows all stays
module _ (sender : ℕ) (book table : List ℕ) (c : Counts) (sound : (book_sound c.used book ≡ true) × (table_sound c.rows table ≡ true)) where
  none-taken : rows_taken [] table c.rows ≡ rows_of row_wide c.rows table
  unfolding taken_all
  none-taken = refl

  none-count : length (rows_taken [] table c.rows) ≡ c.rows
  none-count = ap length none-taken ∙ length-rows_of row_wide c.rows table

  none-counts : counts_taking [] table c ≡ c
  none-counts = let z : c.used + 0 * entry_wide ≡ c.used = omega arith in λ i. record { used = z i; rows = none-count i }

  none-room : room_for [] book table c ≡ Ok 0
  unfolding room_for
  none-room =
      let u : c.used + 0 * entry_wide ≤ book_room book = let k = (sound-facts c.used book sound.0).room in omega arith in
      let t : length (rows_taken [] table c.rows) ≤ table_room table = rw none-count (sound-within c.rows table sound.1) in
      rw (le-leb _ _ u, le-leb _ _ t)

  none-book : book ≡ book_taking (next_in c.used book) [] sender book c.used
  unfolding book_taking entries_of flat
  none-book = sym (over-nil c.used book)

  none-table : table ≡ table_taking [] table c.rows
  unfolding table_taking taken_all
  none-table = sym (store_same row_wide c.rows table)

  pub rowless : (bodies : List (List ℕ)) → bodies ≡ [] → (r : Outcome) → r ≡ outcome_of (Ok 0) c → Left bodies sender book table c r book table
  rowless bodies e r h = rw e (accepts [] sender book table c 0 none-room r book table c h (sym none-counts) none-book none-table)
