-- 8, or acceptance, once nothing else bars a withdrawal. Assumes nothing.
use mathlib.Core.Path.{◌≡◌, refl, ap}
use mathlib.Core.Bool.{true}
use mathlib.Core.List.{List}
use Prim.Native.Nat.{ℕ, ◌≤◌, ◌<◌}
use borrow.Author.Tests.{le-leb, lt-leb}
use lib.ListN.{length}
use Rattle.std.specs.Prelude.{Ok, Err}
use Rattle.lists.proofs.LogicLaws.{and-pass}
use Rattle.table.specs.Rules.{table_room, table_sound}
use Rattle.book.specs.Rules.{book_sound}
use Rattle.calls.specs.declared.Refusal.TheVariants.{TableShort}
use Rattle.calls.specs.declared.Counts.{Counts}
use Rattle.calls.specs.declared.Outcome.{Outcome}
use Rattle.calls.specs.Leaves.{counts_of, outcome_of, day_of, leaves}
use Rattle.calls.specs.Withdraw.{withdraw_sound, rows_without, room_without, book_without, table_without, without_by}
use Rattle.calls.proofs.LeavesLaws.{leaves-refused, leaves-accepted}
use Rattle.withdrawals.specs.inner.Steps.{room_leaves}

-- soundness, by its two tests
pub sound-parts : (book table : List ℕ) (c : Counts) → withdraw_sound book table c ≡ true → (book_sound c.used book ≡ true) × (table_sound c.rows table ≡ true)
unfolding withdraw_sound
sound-parts book table c e = and-pass (book_sound c.used book) (table_sound c.rows table) e

-- ---- 8, or acceptance

module _ (n : ℕ) (book table : List ℕ) (c : Counts) where
  abbrev without : List (List ℕ)
  without = rows_without n book c.used table c.rows

  abbrev Room : Outcome → List ℕ → List ℕ → Type 0
  Room r b t = leaves r b t ≡ room_leaves n book table c

  pub room-refused : (r : Outcome) → table_room table < length without → r ≡ outcome_of (Err TableShort) c → Room r book table
  unfolding without_by room_without
  room-refused r h told = leaves-refused (room_without n book table c) (Err TableShort) _ book table c (rw (lt-leb (length without) (table_room table) h)) refl r told

  pub room-taken : (r : Outcome) (count : ℕ) (b t : List ℕ) → length without ≤ table_room table → r ≡ outcome_of (Ok 0) (counts_of c.used count) → count ≡ length without
      → b ≡ book_without n book c.used → t ≡ table_without n book c.used table c.rows → Room r b t
  unfolding without_by room_without
  room-taken r count b t h told e f g =
      leaves-accepted (room_without n book table c) 0 _ (day_of book table c) (rw (le-leb (length without) (table_room table) h)) r b t _ told (ap (counts_of c.used) e) f g
