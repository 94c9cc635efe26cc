-- Rows that are taken, of a message or staged ones, keep the book with its plan and log. Assumes nothing.
use mathlib.Core.Path.{◌≡◌, refl, sym, ap, ◌∙◌, subst}
use mathlib.Core.Bool.{true}
use mathlib.Core.List.{List, [], ◌∷◌, ◌++◌, map}
use Prim.Native.Nat.{ℕ, suc, ◌+◌, ◌*◌, ◌^◌, ◌≤◌, ◌<◌}
use native.Mathlib.Nat.{zero-add}
use native.Mathlib.Omega.{arith}
use borrow.Author.Tests.{ne_eqb}
use lib.Dec.{eqb}
use lib.ListN.{length, length-append}
use Rattle.lists.specs.Logic.{on}
use Rattle.lists.specs.Each.{Each}
use Rattle.lists.specs.Part.{over}
use Rattle.lists.specs.Rows.{flat}
use Rattle.lists.proofs.OverLaws.{over-nil}
use Rattle.lists.proofs.RowLaws.{length-rows_of, flat_append}
use Rattle.lists.proofs.StoreLaws.{store_same}
use Rattle.passage.specs.Layout.{row_wide}
use Rattle.keys.specs.Replay.{taken_all}
use Rattle.table.specs.Rules.{table_room}
use Rattle.book.specs.Entries.{entry_wide, plan_entry, entries_of, updates_in}
use Rattle.book.specs.Rules.{book_room, book_sound, next_number}
use Rattle.book.proofs.SoundLaws.{sound-facts, used-within}
use Rattle.book.proofs.WriteLaws.{length-entries_of}
use Rattle.book.proofs.AfterLaws.{after-message}
use Rattle.calls.specs.Message.{next_in, number_for, rows_taken, book_taking, table_taking, counts_taking}
use Rattle.calls.specs.Leaves.{Day}
use Rattle.runs.specs.Runs.{Taken, Deed, done, noted, log_entries}
use Rattle.runs.proofs.LogLaws.{Update, noted-append, log-more, log-least, log-next}
use Rattle.runs.proofs.FollowLaws.{Holds, length-plans, length-log, write-behind}

-- the day once the bodies are taken
abbrev pub takes : List (List ℕ) → ℕ → Day → Day
takes bodies sender x =
    record {
      book = book_taking (next_in x.counts.used x.book) bodies sender x.book x.counts.used;
      table = table_taking bodies x.table x.counts.rows;
      counts = counts_taking bodies x.table x.counts;
    }

-- no rows change nothing
pub takes_none : (sender : ℕ) (x : Day) → x ≡ takes [] sender x
unfolding book_taking table_taking taken_all entries_of flat
takes_none sender x =
    let b = sym (over-nil x.counts.used x.book) in
    let t = sym (store_same row_wide x.counts.rows x.table) in
    let u : x.counts.used ≡ x.counts.used + 0 * entry_wide = omega arith in
    let r = sym (length-rows_of row_wide x.counts.rows x.table) in
    λ i. record { book = b i; table = t i; counts = record { used = u i; rows = r i } }

module _ (plan : List (List ℕ)) (lent : List ℕ) (x : Day) (log : List Taken) (f : Holds plan lent x log) where
  -- the number of a message with rows
  abbrev next : ℕ
  next = next_number (updates_in x.counts.used x.book)

  pub next-is : next ≡ suc (length log)
  next-is = ap next_number f.updates ∙ log-next log f.numbered

  module _ (sound : book_sound x.counts.used x.book ≡ true) (bodies : List (List ℕ)) (sender : ℕ) (are : Each Update bodies) (some : 0 < length bodies) (from : 1 ≤ sender)
      (room : x.counts.used + length bodies * entry_wide ≤ book_room x.book) where
    next_fits : next < 256 ^ 4
    next_fits =
        let a = next-is in
        let b = log-least 0 log f.numbered in
        let c = (used-within x.counts.used x.book (sound-facts x.counts.used x.book sound)).1 in
        let d = f.used-is in
        omega arith

    abbrev more : List Taken
    more = log ++ record { number = next; sender = sender; bodies = bodies; stands = true } ∷ []

    more-holds : Holds plan lent (takes bodies sender x) more
    unfolding book_taking
    more-holds =
        let b = after-message x.counts.used x.book sound sender bodies are from room in
        record {
          is-plan = f.is-plan;
          numbered = noted-append 0 log _ f.numbered record { follows = next-is ∙ ap suc (sym (zero-add (length log))); fits = next_fits; filled = some; updates = are };
          book-is =
              ap (over x.counts.used (flat (entries_of next sender bodies))) f.book-is
              ∙ write-behind x.counts.used (flat (map plan_entry plan)) (flat (log_entries log)) (flat (entries_of next sender bodies)) lent
              (f.used-is ∙ rw (length-plans plan f.is-plan.0, length-log log f.numbered))
              ∙ ap (λ (v : List ℕ). over 0 (flat (map plan_entry plan) ++ v) lent) (sym (flat_append (log_entries log) (entries_of next sender bodies)) ∙ ap flat (sym (log-more log next sender bodies)));
          used-is =
              let l = ap length (log-more log next sender bodies) ∙ length-append (log_entries log) (entries_of next sender bodies) in
              let m = length-entries_of next sender bodies in
              let u = f.used-is in
              omega arith;
          plans = b.2 ∙ f.plans;
          updates = b.3 ∙ ap (λ (l : List (List ℕ)). l ++ entries_of next sender bodies) f.updates ∙ sym (log-more log next sender bodies);
        }

-- what rows are that a day can take
pub record Takable (bodies : List (List ℕ)) (sender : ℕ) (x : Day) : Type 0 where
  pub updates : Each Update bodies
  pub from : 0 < length bodies → 1 ≤ sender
  pub in-book : x.counts.used + length bodies * entry_wide ≤ book_room x.book
  pub in_table : length (rows_taken bodies x.table x.counts.rows) ≤ table_room x.table

-- no message with rows has number 0
next-some : (us : List (List ℕ)) → next_number us ≡ 0 → ⊥
unfolding next_number
next-some us e = omega arith

-- the deed: nothing where there are no rows
abbrev pub taken_deed : List (List ℕ) → ℕ → Day → Deed
taken_deed bodies sender x =
    on (eqb (number_for bodies x.counts.used x.book) 0) Deed.nothing (Deed.took (number_for bodies x.counts.used x.book) sender bodies)

module _ (bodies : List (List ℕ)) (sender : ℕ) (x : Day) where
  pub taken-deed : takes bodies sender x ≡ done (taken_deed bodies sender x) x
  taken-deed = go bodies refl
    where
      go : (us : List (List ℕ)) → bodies ≡ us → takes bodies sender x ≡ done (taken_deed bodies sender x) x
      go [] h = rw h (sym (takes_none sender x))
      go (b ∷ l) h =
          let k : length bodies ≡ 0 → ⊥ = λ z. let some : 0 < length bodies = rw h (omega arith) in omega arith in
          rw (ne_eqb (length bodies) 0 k, ne_eqb (next_in x.counts.used x.book) 0 (next-some (updates_in x.counts.used x.book)))

  pub taken-holds : Takable bodies sender x → (plan : List (List ℕ)) (lent : List ℕ) (log : List Taken) → book_sound x.counts.used x.book ≡ true → Holds plan lent x log
      → Holds plan lent (takes bodies sender x) (noted (taken_deed bodies sender x) log)
  taken-holds t plan lent log sound f = go bodies refl
    where
      go : (us : List (List ℕ)) → bodies ≡ us → Holds plan lent (takes bodies sender x) (noted (taken_deed bodies sender x) log)
      go [] h = rw h (subst (λ (y : Day). Holds plan lent y log) (takes_none sender x) f)
      go (b ∷ l) h =
          let some : 0 < length bodies = rw h (omega arith) in
          let k : length bodies ≡ 0 → ⊥ = λ z. omega arith in
          let m : next_number (updates_in x.counts.used x.book) ≡ 0 → ⊥ = λ z. let n = next-is plan lent x log f in omega arith in
          rw (ne_eqb (length bodies) 0 k, ne_eqb (next_number (updates_in x.counts.used x.book)) 0 m)
          (more-holds plan lent x log f sound bodies sender t.updates some (t.from some) t.in-book)
