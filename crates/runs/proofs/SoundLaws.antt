-- An accepted call on any sound day leaves a sound day, and one whose table agrees with its book if it did before. The row rule enters by its laws alone. Assumes nothing.
use mathlib.Core.Path.{◌≡◌, refl, sym, ap, ap₂, ◌∙◌, subst}
use mathlib.Core.Bool.{true}
use mathlib.Core.List.{List, [], ◌∷◌, ◌++◌}
use mathlib.Core.Logic.{◌⊎◌, inl, inr}
use Prim.Native.Nat.{ℕ, ◌+◌, ◌*◌, ◌<◌}
use native.Mathlib.Omega.{arith}
use lib.ListN.{length}
use Rattle.lists.specs.Each.{Each}
use Rattle.lists.specs.Rows.{rows_of}
use Rattle.lists.proofs.WideLaws.{wide-rows_of}
use Rattle.passage.specs.Layout.{row_wide, key_of}
use Rattle.passage.specs.Ranges.{row_in_range}
use Rattle.keys.specs.Sorted.{get}
use Rattle.keys.specs.Replay.{taken_all, reworked}
use Rattle.keys.proofs.ReplayLaws.{RowOf, each_both, taken_all-append, get_has, sorted-taken_all, each-taken_all, replayed-has, sorted-reworked, each-reworked}
use Rattle.update.specs.Rule.{row_rule}
use Rattle.update.proofs.RuleLaws.{rule-wide}
use Rattle.update.proofs.InRangeLaws.{rule-in-range}
use Rattle.table.specs.Rules.{table_sound}
use Rattle.table.proofs.SoundLaws.{sound-fits, sound-range, sound-sorted, range-each}
use Rattle.book.specs.Entries.{entry_wide, entries_of, plan_bodies, updates_in}
use Rattle.book.specs.Rules.{keys_named, book_sound, no_entry, next_number, message_entries, withdrawn, standing, plan_rows, row_for}
use Rattle.book.proofs.SoundLaws.{sound-facts}
use Rattle.book.proofs.SplitLaws.{wide-updates}
use Rattle.book.proofs.StandingLaws.{standing-append, standing-ranges, sound-plan-ranges}
use Rattle.book.proofs.AgreeLaws.{agrees-withdrawn}
use Rattle.book.proofs.AfterLaws.{after-message}
use Rattle.calls.specs.Message.{next_in, book_taking, table_taking}
use Rattle.calls.specs.Withdraw.{rows_without, book_without, table_without}
use Rattle.calls.proofs.AcceptedLaws.{left}
use Rattle.calls.proofs.TakenLaws.{keeps}
use Rattle.calls.specs.Leaves.{Day}
use Rattle.runs.specs.Runs.{Call, reply_to, is_done, after}
use Rattle.runs.specs.Claims.{Sound, rows_in, rows_by_book, Agrees}
use Rattle.runs.proofs.LogLaws.{Update, updates-wide}
use Rattle.runs.proofs.EntryLaws.{entries-standing, standing-as}
use Rattle.runs.proofs.RowsLaws.{Row, plan-rows, sorted-plan, rows-stored, stored-read}
use Rattle.book.proofs.MarkLaws.{book-less}
use Rattle.runs.proofs.OpenLaws.{open-follows}
use Rattle.runs.proofs.TakeLaws.{takes, takes_none, Takable}
use Rattle.runs.proofs.MessageLaws as Message
use Rattle.runs.proofs.EndLaws as End
use Rattle.runs.proofs.WithdrawLaws as Withdraw

-- what the row rule makes of none or of a row, by an update
rule-row : (held u : List ℕ) → Update u → (held ≡ []) ⊎ Row held → Row (row_rule held u)
rule-row held u p (inl e) = (rule-wide held u p.0, rule-in-range held u p.0 p.1 (inl e))
rule-row held u p (inr r) = (rule-wide held u p.0, rule-in-range held u p.0 p.1 (inr r.1))

-- it keeps the key, and gives no empty row
rule-keeps : (held u : List ℕ) → Update u → RowOf (key_of u) held → key_of (row_rule held u) ≡ key_of u
rule-keeps held u p r = keeps held u p.0 r

row-filled : (r : List ℕ) → Row r → 0 < length r
row-filled r h = let l : length r ≡ row_wide = h.0 in omega arith

-- the rows of a sound table
sound-rows : (n : ℕ) (t : List ℕ) → table_sound n t ≡ true → Each Row (rows_of row_wide n t)
sound-rows n t e =
    each_both (λ (r : List ℕ). length r ≡ row_wide) (λ (r : List ℕ). row_in_range r ≡ true) (rows_of row_wide n t)
    (wide-rows_of row_wide n t (sound-fits n t e)) (range-each (rows_of row_wide n t) (sound-range n t e))

-- ---- rows that are taken, of a message or staged ones

module _ (bodies : List (List ℕ)) (sender : ℕ) (x : Day) (s : Sound x) (t : Takable bodies sender x) where
  new-rows : Each Row (taken_all row_rule bodies (rows_in x))
  new-rows = each-taken_all row_rule Update Row rule-row bodies _ t.updates (sound-rows x.counts.rows x.table s.1)

  table-after : table_sound (length (taken_all row_rule bodies (rows_of row_wide x.counts.rows x.table))) (table_taking bodies x.table x.counts.rows) ≡ true
  unfolding table_taking
  table-after = rows-stored x.counts.rows _ x.table new-rows (sorted-taken_all row_rule bodies _ (sound-sorted x.counts.rows x.table s.1)) t.in_table

  book-taken : 0 < length bodies → book_sound (x.counts.used + length bodies * entry_wide) (book_taking (next_in x.counts.used x.book) bodies sender x.book x.counts.used) ≡ true
  unfolding book_taking
  book-taken some = (after-message x.counts.used x.book s.0 sender bodies t.updates (t.from some) t.in-book).0

  taken-sound : Sound (takes bodies sender x)
  taken-sound = go bodies refl
    where
      go : (us : List (List ℕ)) → bodies ≡ us → Sound (takes bodies sender x)
      go [] h = rw h (subst Sound (takes_none sender x) s)
      go (b ∷ l) h = (book-taken (rw h (omega arith)), table-after)

  -- ---- the table against the book

  rows-read : rows_of row_wide (length (taken_all row_rule bodies (rows_in x))) (table_taking bodies x.table x.counts.rows) ≡ taken_all row_rule bodies (rows_in x)
  unfolding table_taking
  rows-read = stored-read x.counts.rows _ x.table new-rows t.in_table

  some-agree : rows_in x ≡ rows_by_book x → 0 < length bodies → rows_in (takes bodies sender x) ≡ rows_by_book (takes bodies sender x)
  unfolding book_taking
  some-agree a some =
      let us = updates_in x.counts.used x.book in
      let ps = plan_bodies x.counts.used x.book in
      let next = next_number us in
      let b = after-message x.counts.used x.book s.0 sender bodies t.updates (t.from some) t.in-book in
      let added : standing (us ++ entries_of next sender bodies) ≡ standing us ++ bodies =
      standing-append us (entries_of next sender bodies)
      ∙ ap (λ (l : List (List ℕ)). standing us ++ l) (ap standing (entries-standing next sender bodies) ∙ standing-as 2 next sender bodies (updates-wide bodies t.updates)) in
      rows-read
      ∙ ap (taken_all row_rule bodies) a
      ∙ sym (taken_all-append row_rule (standing us) bodies (plan_rows ps))
      ∙ ap (λ (l : List (List ℕ)). taken_all row_rule l (plan_rows ps)) (sym (ap standing b.3 ∙ added))
      ∙ ap (λ (l : List (List ℕ)). taken_all row_rule (standing (updates_in (x.counts.used + length bodies * entry_wide) (book_taking (next_in x.counts.used x.book) bodies sender x.book x.counts.used))) (plan_rows l)) (sym b.2)

  taken-agrees : rows_in x ≡ rows_by_book x → rows_in (takes bodies sender x) ≡ rows_by_book (takes bodies sender x)
  taken-agrees a = go bodies refl
    where
      go : (us : List (List ℕ)) → bodies ≡ us → rows_in (takes bodies sender x) ≡ rows_by_book (takes bodies sender x)
      go [] h = rw h (subst (λ (y : Day). rows_in y ≡ rows_by_book y) (takes_none sender x) a)
      go (b ∷ l) h = some-agree a (rw h (omega arith))

  -- and so a call that takes them
  took-sound : (y : Day) → takes bodies sender x ≡ y → Sound y
  took-sound y e = subst Sound e taken-sound

  took-agrees : (y : Day) → takes bodies sender x ≡ y → rows_in x ≡ rows_by_book x → Agrees y
  took-agrees y e a = subst Agrees e (taken-sound, taken-agrees a)

-- ---- withdraw

module _ (n sender : ℕ) (x : Day) (s : Sound x) (e : is_done (reply_to (Call.withdraw n sender) x) ≡ true) where
  abbrev less : List (List ℕ)
  less = withdrawn n (updates_in x.counts.used x.book)

  book-after : book_sound x.counts.used (book_without n x.book x.counts.used) ≡ true
  unfolding book_without
  book-after = (book-less x.counts.used x.book n s.0).0

  plans-after : plan_bodies x.counts.used (book_without n x.book x.counts.used) ≡ plan_bodies x.counts.used x.book
  unfolding book_without
  plans-after = (book-less x.counts.used x.book n s.0).1

  updates-after : updates_in x.counts.used (book_without n x.book x.counts.used) ≡ less
  unfolding book_without
  updates-after = (book-less x.counts.used x.book n s.0).2

  standing-after : Each Update (standing less)
  standing-after =
      let b = book_without n x.book x.counts.used in
      rw (← updates-after) (standing-ranges no_entry (updates_in x.counts.used b) (wide-updates x.counts.used b book-after) (sound-facts x.counts.used b book-after).chain)

  worked : (k : List ℕ) → (row_for row_rule (plan_bodies x.counts.used x.book) less k ≡ []) ⊎ Row (row_for row_rule (plan_bodies x.counts.used x.book) less k)
  unfolding row_for
  worked k =
      let ps = plan_rows (plan_bodies x.counts.used x.book) in
      replayed-has row_rule Update Row rule-row k (get k ps) (standing less) standing-after
      (get_has Row k ps (plan-rows (plan_bodies x.counts.used x.book) (sound-plan-ranges x.counts.used x.book s.0)))

  withdraw-sound : Sound (after (Call.withdraw n sender) x)
  unfolding table_without rows_without
  withdraw-sound =
      subst Sound (Withdraw.day-after n sender x e) (
        book-after,
        rows-stored x.counts.rows _ x.table
            (each-reworked _ Row worked (keys_named _) _ (sound-rows x.counts.rows x.table s.1))
            (sorted-reworked _ (keys_named _) _ (sound-sorted x.counts.rows x.table s.1))
            (left x.book x.table n sender x.counts e).in_table,
      )

  -- ---- the table against the book

  abbrev plans : List (List ℕ)
  plans = plan_bodies x.counts.used x.book

  rows-worked : rows_in x ≡ rows_by_book x → rows_without n x.book x.counts.used x.table x.counts.rows ≡ taken_all row_rule (standing less) (plan_rows plans)
  unfolding rows_without
  rows-worked a =
      let us = updates_in x.counts.used x.book in
      let planned = sound-plan-ranges x.counts.used x.book s.0 in
      ap (reworked (row_for row_rule plans less) (keys_named (message_entries n us))) a
      ∙ agrees-withdrawn row_rule Update Row rule-keeps rule-row row-filled plans us (plan-rows plans planned)
      (sorted-plan plans planned (sound-facts x.counts.used x.book s.0).rises) (wide-updates x.counts.used x.book s.0)
      (standing-ranges no_entry us (wide-updates x.counts.used x.book s.0) (sound-facts x.counts.used x.book s.0).chain) n

  withdraw-agrees : rows_in x ≡ rows_by_book x → rows_in (after (Call.withdraw n sender) x) ≡ rows_by_book (after (Call.withdraw n sender) x)
  unfolding table_without rows_without
  withdraw-agrees a =
      subst (λ (y : Day). rows_in y ≡ rows_by_book y) (Withdraw.day-after n sender x e)
      (stored-read x.counts.rows _ x.table (each-reworked _ Row worked (keys_named _) _ (sound-rows x.counts.rows x.table s.1)) (left x.book x.table n sender x.counts e).in_table
      ∙ rows-worked a
      ∙ ap₂ (λ (us bodies : List (List ℕ)). taken_all row_rule (standing us) (plan_rows bodies)) (sym updates-after) (sym plans-after))

pub accepted-sound : (call : Call) (x : Day) → Sound x → is_done (reply_to call x) ≡ true → Sound (after call x)
accepted-sound (Call.reopen planning calendar) x s e = (open-follows planning calendar x.book x.table x.counts e).agrees.0
accepted-sound (Call.message d sender form register) x s e =
    took-sound (Message.sent d sender form register x) sender x s (Message.takable d sender form register x e) (after (Call.message d sender form register) x) (Message.day-after d sender form register x e)
accepted-sound (Call.end_feed register staging kept) x s e =
    took-sound (End.sent register staging kept x) (End.sender register staging kept x) x s (End.takable register staging kept x e) (after (Call.end_feed register staging kept) x) (End.day-after register staging kept x e)
accepted-sound (Call.withdraw n sender) x s e = withdraw-sound n sender x s e
accepted-sound (Call.look question places) x s e = s

pub accepted-agrees : (call : Call) (x : Day) → Agrees x → is_done (reply_to call x) ≡ true → Agrees (after call x)
accepted-agrees (Call.reopen planning calendar) x a e = (open-follows planning calendar x.book x.table x.counts e).agrees
accepted-agrees (Call.message d sender form register) x a e =
    took-agrees (Message.sent d sender form register x) sender x a.0 (Message.takable d sender form register x e) (after (Call.message d sender form register) x) (Message.day-after d sender form register x e) a.1
accepted-agrees (Call.end_feed register staging kept) x a e =
    took-agrees (End.sent register staging kept x) (End.sender register staging kept x) x a.0 (End.takable register staging kept x e) (after (Call.end_feed register staging kept) x) (End.day-after register staging kept x e) a.1
accepted-agrees (Call.withdraw n sender) x a e = (withdraw-sound n sender x a.0 e, withdraw-agrees n sender x a.0 e a.1)
accepted-agrees (Call.look question places) x a e = a
