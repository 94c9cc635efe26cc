-- Where a message that was found stands, and that marking its entries is its withdrawal. Assumes nothing.
use mathlib.Core.Path.{◌≡◌, sym}
use mathlib.Core.Bool.{true}
use mathlib.Core.List.{List, map}
use Prim.Native.Nat.{ℕ, ◌+◌, ◌*◌, ◌≤◌}
use native.Mathlib.Omega.{arith}
use lib.ListN.{drop}
use Rattle.lists.specs.Part.{over}
use Rattle.lists.specs.Rows.{rows_of, flat}
use Rattle.book.specs.Entries.{plan_wide, entry_wide, plan_count, updates_in}
use Rattle.book.specs.Rules.{book_sound, marked_withdrawn}
use Rattle.book.proofs.SplitLaws.{sound-split, length-updates}
use Rattle.book.proofs.MarkLaws.{marks-alone}
use Rattle.std.specs.Prelude.{Some}
use Rattle.book_find.specs.inner.Held.{held_as}
use Rattle.book_find.proofs.HeldLaws.{held-is, found-message}
use Rattle.calls.specs.Withdraw.{book_without}
use Rattle.withdrawals.specs.inner.Steps.{MessageAt}

module _ (n used : ℕ) (b : List ℕ) (sound : book_sound used b ≡ true) (i m : ℕ) (found : held_as n (updates_in used b) ≡ Some (i, m)) where
  abbrev us : List (List ℕ)
  us = updates_in used b

  abbrev from : ℕ
  from = plan_count used b * plan_wide

  abbrev at : ℕ
  at = from + i * entry_wide

  inside : at + m * entry_wide ≤ used
  inside =
      let f = found-message used b n sound i m found in
      let l = length-updates used b sound in
      let w = (sound-split used b sound).whole in
      omega (arith, f.0)

  -- the marks alone written are the updates written again with the message withdrawn
  marks-are : over at (flat (map marked_withdrawn (rows_of entry_wide m (drop at b)))) b ≡ book_without n b used
  unfolding book_without
  marks-are =
      let f = found-message used b n sound i m found in
      let h = held-is n us i m found in
      rw (f.2, h.0) (sym (marks-alone used b n sound))

  pub stands : MessageAt n used b at m
  stands =
      let f = found-message used b n sound i m found in
      record { entries = sym f.2; some = f.1; within = inside; marks = marks-are }
