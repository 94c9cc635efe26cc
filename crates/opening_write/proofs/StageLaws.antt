-- What the last steps of open make of the answer: refusals that change nothing, and acceptance. Assumes nothing.
use mathlib.Core.Path.{◌≡◌, sym, ap, ◌∙◌}
use mathlib.Core.Bool.{false}
use mathlib.Core.List.{List, [], map}
use Prim.Native.Nat.{ℕ, ◌*◌, ◌≤◌, ◌<◌}
use borrow.Author.Tests.{le-leb, lt-leb, eq-eqb, ne_eqb}
use lib.ListN.{length}
use Rattle.std.specs.Prelude.{Ok, Err}
use Rattle.lists.specs.Part.{over}
use Rattle.lists.specs.Rows.{flat}
use Rattle.keys.specs.Sorted.{put_all}
use Rattle.table.specs.Rules.{table_room}
use Rattle.book.specs.Entries.{plan_wide, plan_entry}
use Rattle.book.specs.Rules.{book_room, plan_rows}
use Rattle.calls.specs.declared.Refusal.TheVariants.{BookShort, TableShort, KeyTwice}
use Rattle.calls.specs.declared.Counts.{Counts}
use Rattle.calls.specs.declared.Outcome.{Outcome}
use Rattle.calls.specs.Answers.{Answer, is_accepted}
use Rattle.calls.specs.Leaves.{counts_of, outcome_of, day_of, leaves}
use Rattle.calls.specs.Open.{room_to_open, opened_by}
use Rattle.opening_write.specs.inner.Steps.{joined_by}
use Rattle.calls.proofs.LeavesLaws.{leaves-refused, leaves-accepted}

-- what is left by the answer a on these bodies: outcome, book and table
abbrev pub Opened : Answer → List (List ℕ) → List ℕ → List ℕ → Counts → Outcome → List ℕ → List ℕ → Type 0
Opened a bodies book table c r b t = leaves r b t ≡ joined_by a bodies book table c

module _ (bodies : List (List ℕ)) (book table : List ℕ) (c : Counts) where
  -- a refusal gives everything back
  pub refused-with : (a x : Answer) → is_accepted a ≡ false → x ≡ a → (r : Outcome) → r ≡ outcome_of a c → Opened x bodies book table c r book table
  unfolding opened_by
  refused-with a x f e r k = leaves-refused x a _ book table c e f r k

  -- acceptance of n bodies that became the plan
  pub accepted-with : (x : Answer) (n : ℕ) (plan : List (List ℕ)) (r : Outcome) (b t : List ℕ) → x ≡ Ok 0 → length (put_all bodies []) ≡ n → plan ≡ put_all bodies []
      → r ≡ outcome_of (Ok 0) (counts_of (n * plan_wide) n) → b ≡ over 0 (flat (map plan_entry plan)) book → t ≡ over 0 (flat (plan_rows plan)) table → Opened x bodies book table c r b t
  unfolding opened_by
  accepted-with x n plan r b t e l p o k h =
      leaves-accepted x 0 _ (day_of book table c) e r b t _ o (ap (λ (m : ℕ). counts_of (m * plan_wide) m) (sym l))
      (k ∙ ap (λ (ps : List (List ℕ)). over 0 (flat (map plan_entry ps)) book) p) (h ∙ ap (λ (ps : List (List ℕ)). over 0 (flat (plan_rows ps)) table) p)

  -- ---- 7, 9, 8

  pub book-short : book_room book < length bodies * plan_wide → room_to_open bodies book table ≡ Err BookShort
  unfolding room_to_open
  book-short h = rw (lt-leb (length bodies * plan_wide) (book_room book) h)

  module _ (fits : length bodies * plan_wide ≤ book_room book) where
    pub key_twice : (length (put_all bodies []) ≡ length bodies → ⊥) → room_to_open bodies book table ≡ Err KeyTwice
    unfolding room_to_open
    key_twice n = rw (le-leb (length bodies * plan_wide) (book_room book) fits, ne_eqb (length (put_all bodies [])) (length bodies) n)

    pub table-short : length (put_all bodies []) ≡ length bodies → table_room table < length bodies → room_to_open bodies book table ≡ Err TableShort
    unfolding room_to_open
    table-short e h = rw (le-leb (length bodies * plan_wide) (book_room book) fits, eq-eqb (length (put_all bodies [])) (length bodies) e, lt-leb (length bodies) (table_room table) h)

    pub accepted : length (put_all bodies []) ≡ length bodies → length bodies ≤ table_room table → room_to_open bodies book table ≡ Ok 0
    unfolding room_to_open
    accepted e h = rw (le-leb (length bodies * plan_wide) (book_room book) fits, eq-eqb (length (put_all bodies [])) (length bodies) e, le-leb (length bodies) (table_room table) h)
