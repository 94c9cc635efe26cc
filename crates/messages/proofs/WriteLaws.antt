-- The writes of an accepted message. Assumes nothing.
use Prim.Native.Nat.{ℕ, ◌+◌, ◌*◌, ◌-◌, ◌≤◌}
use native.Mathlib.Omega.{arith}
use mathlib.Core.Path.{◌≡◌, ap, ◌∙◌}
use mathlib.Core.List.{List, ◌++◌}
use lib.ListN.{length, take, drop}
use Rattle.lists.specs.Part.{over}
use Rattle.lists.specs.Rows.{rows_of, flat}
use Rattle.lists.proofs.ReadLaws.{lent-over}
use Rattle.lists.proofs.RowLaws.{length-rows_of}
use Rattle.lists.proofs.WideLaws.{wide-rows_of, length-flat}
use Rattle.passage.specs.Layout.{body_wide}
use Rattle.book.specs.Entries.{entry_wide, entries_of, updates_in}
use Rattle.book.specs.Rules.{book_room, next_number}
use Rattle.book.proofs.SoundLaws.{room_within}
use Rattle.book.proofs.WriteLaws.{wide-entries_of, length-entries_of}
use Rattle.calls.specs.Message.{next_in, book_taking}

module _ (staging : List ℕ) (n : ℕ) (staged : n * body_wide ≤ length staging) (book : List ℕ) (used : ℕ) where
  abbrev bodies : List (List ℕ)
  bodies = rows_of body_wide n staging

  entries-long : (number sender : ℕ) → length (flat (entries_of number sender bodies)) ≡ n * entry_wide
  entries-long number sender =
      length-flat entry_wide (entries_of number sender bodies) (wide-entries_of number sender bodies (wide-rows_of body_wide n staging staged))
      ∙ ap (λ (k : ℕ). k * entry_wide) (length-entries_of number sender bodies ∙ length-rows_of body_wide n staging)

  -- the free tail once the entries are in it, as part of the book
  pub tail-back : (number sender : ℕ) (tail : List ℕ) → used + n * entry_wide ≤ book_room book → number ≡ next_number (updates_in used book)
      → tail ≡ over 0 (flat (entries_of number sender bodies)) (take (length book - used) (drop used book))
      → take used book ++ (tail ++ drop (length book - used) (drop used book)) ≡ book_taking (next_in used book) bodies sender book used
  unfolding book_taking
  tail-back number sender tail room e h =
      let w = room_within book in
      let l = entries-long number sender in
      let z : used + 0 ≡ used = omega arith in
      ap (λ (t : List ℕ). take used book ++ (t ++ drop (length book - used) (drop used book))) h
      ∙ lent-over used (length book - used) 0 (flat (entries_of number sender bodies)) book (omega arith)
      ∙ ap (λ (k : ℕ). over k (flat (entries_of number sender bodies)) book) z
      ∙ ap (λ (k : ℕ). over used (flat (entries_of k sender bodies)) book) e
