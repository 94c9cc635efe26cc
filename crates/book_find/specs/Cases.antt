-- The rules run on small examples. Assumes nothing.
use Rattle.std.specs.Prelude.{◌≡◌, refl, List, [], ◌∷◌, ℕ, None, Some}
use Rattle.lists.specs.Part.{part}
use Rattle.lists.specs.BigEndian.{number}
use Rattle.book_find.specs.inner.Held.{held_as}
use Rattle.book.specs.inner.Steps.{first_entry_of, run_of}

-- kind, message number, sender
head : ℕ → ℕ → ℕ → List ℕ
head k n s = k ∷ 0 ∷ 0 ∷ 0 ∷ n ∷ s ∷ []

-- message 1, withdrawn, then message 2 with two entries
updates : List (List ℕ)
updates = head 3 1 7 ∷ head 2 2 9 ∷ head 2 2 9 ∷ []

held-case : (held_as 2 updates ≡ Some (1, 2)) × (held_as 1 updates ≡ Some (0, 1)) × (held_as 3 updates ≡ None)
unfolding held_as first_entry_of run_of number part updates head
held-case = (refl, refl, refl)
