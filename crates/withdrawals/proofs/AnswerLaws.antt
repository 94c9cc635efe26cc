-- The answers of a withdrawal, one way out after another, and that a refusal gives back everything. Assumes nothing.
use mathlib.Core.Path.{◌≡◌, ◌∙◌}
use mathlib.Core.Bool.{Bool, true, false, ◌||◌}
use mathlib.Core.List.{List, [], ◌∷◌}
use Prim.Native.Nat.{ℕ, zero, suc, ◌+◌, ◌-◌, ◌<◌}
use native.Mathlib.Nat.{not-suc-le-zero}
use native.Mathlib.Omega.{arith}
use lib.Dec.{eqb}
use lib.ListN.{drop, get_or}
use Rattle.std.specs.Prelude.{Err}
use Rattle.lists.specs.Logic.{on}
use Rattle.lists.specs.Part.{part}
use Rattle.lists.specs.Rows.{rows_of}
use Rattle.table.specs.Rules.{table_sound}
use Rattle.book.specs.Entries.{entry_wide, sender_offset, updates_in}
use Rattle.book.specs.Rules.{book_sound, message_entries}
use Rattle.book.proofs.PlaceLaws.{kind_at, sender-from}
use Rattle.calls.specs.declared.Refusal.TheVariants.{Unsound, NoMessage, AlreadyWithdrawn, OtherSender}
use Rattle.calls.specs.declared.Counts.{Counts}
use Rattle.calls.specs.declared.Outcome.{Outcome}
use Rattle.calls.specs.Answers.{Answer, is_accepted}
use Rattle.calls.specs.Leaves.{outcome_of, leaves}
use Rattle.calls.specs.Withdraw.{withdraw_sound, room_without, withdraw_answer, without_by, withdraw_leaves}
use Rattle.calls.proofs.LeavesLaws.{leaves-refused}
use Rattle.withdrawals.specs.inner.Steps.{MessageAt, room_leaves}

-- ---- soundness, by its two tests

module _ (book table : List ℕ) (c : Counts) where
  pub sound-book : (t : Bool) → book_sound c.used book ≡ true → t ≡ table_sound c.rows table → t ≡ withdraw_sound book table c
  unfolding withdraw_sound
  sound-book t e g = rw e g

  pub unsound-book : book_sound c.used book ≡ false → false ≡ withdraw_sound book table c
  unfolding withdraw_sound
  unsound-book e = rw e

-- ---- what is left

module _ (n sender : ℕ) (book table : List ℕ) (c : Counts) where
  abbrev All : Outcome → List ℕ → List ℕ → Type 0
  All r b t = leaves r b t ≡ withdraw_leaves n sender book table c

  pub refused_all : (a : Answer) (r : Outcome) → withdraw_answer n sender book table c ≡ a → is_accepted a ≡ false → r ≡ outcome_of a c → All r book table
  unfolding withdraw_leaves without_by
  refused_all a r e denied told = leaves-refused (withdraw_answer n sender book table c) a _ book table c e denied r told

  -- ---- which answer

  pub not_sound : withdraw_sound book table c ≡ false → withdraw_answer n sender book table c ≡ Err Unsound
  unfolding withdraw_answer
  not_sound e = rw e

  module _ (sound : withdraw_sound book table c ≡ true) where
    pub not_there : message_entries n (updates_in c.used book) ≡ [] → withdraw_answer n sender book table c ≡ Err NoMessage
    unfolding withdraw_answer
    not_there e = rw (sound, e)

    module _ (at m : ℕ) (st : MessageAt n c.used book at m) where
      first-row : (w k : ℕ) (t : List ℕ) → 0 < k → rows_of w k t ≡ part 0 w t ∷ rows_of w (k - 1) (drop w t)
      unfolding rows_of part
      first-row w zero t h = absurd (not-suc-le-zero h)
      first-row w (suc k) t h = let e : suc k - 1 ≡ k = omega arith in rw e

      as_read : withdraw_answer n sender book table c
          ≡ on (eqb sender 0 || eqb sender (get_or book (at + sender_offset) 0)) (on (eqb (get_or book at 0) 3) (Err AlreadyWithdrawn) (room_without n book table c)) (Err OtherSender)
      unfolding withdraw_answer part
      as_read = rw (sound, st.entries, first-row entry_wide m (drop at book) st.some, kind_at at book, sender-from at book)

      pub other-sender : (eqb sender 0 || eqb sender (get_or book (at + sender_offset) 0)) ≡ false → withdraw_answer n sender book table c ≡ Err OtherSender
      other-sender e = as_read ∙ rw e

      module _ (e : (eqb sender 0 || eqb sender (get_or book (at + sender_offset) 0)) ≡ true) where
        pub already : eqb (get_or book at 0) 3 ≡ true → withdraw_answer n sender book table c ≡ Err AlreadyWithdrawn
        already k = as_read ∙ rw (e, k)

        pub goes_on : eqb (get_or book at 0) 3 ≡ false → (r : Outcome) (b t : List ℕ) → leaves r b t ≡ room_leaves n book table c → All r b t
        unfolding withdraw_leaves
        goes_on k r b t told =
            let a : withdraw_answer n sender book table c ≡ room_without n book table c = as_read ∙ rw (e, k) in
            rw a told
