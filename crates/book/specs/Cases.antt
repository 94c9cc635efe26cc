-- The rules run on small examples. Assumes nothing.
use Rattle.std.specs.Prelude.{◌≡◌, refl, true, false, List, [], ◌∷◌, ℕ}
use Rattle.lists.specs.Part.{part}
use Rattle.lists.specs.Rows.{rows_of}
use Rattle.lists.specs.BigEndian.{number, spelled}
use Rattle.book.specs.Entries.{plan_wide, number_offset, number_wide, sender_offset, body_at, entry_wide, leading, plan_count, plans_in, updates_in, entry_of}
use Rattle.book.specs.Rules.{book_room, book_sound, may_follow, all_plans, chained, no_entry, last_from, next_number, message_entries, marked_withdrawn, withdrawn}
use Rattle.keys.specs.Sorted.{sorted_rows}

-- each offset and width of the paper
layout-case : (plan_wide ≡ 67) × (number_offset ≡ 1) × (number_wide ≡ 4) × (sender_offset ≡ 5) × (body_at ≡ 6) × (entry_wide ≡ 72)
layout-case = (refl, refl, refl, refl, refl, refl)

-- kind, message number, sender
head : ℕ → ℕ → ℕ → List ℕ
head k n s = k ∷ 0 ∷ 0 ∷ 0 ∷ n ∷ s ∷ []

entry_case : entry_of 258 7 (1 ∷ 2 ∷ []) ≡ 2 ∷ 0 ∷ 0 ∷ 1 ∷ 2 ∷ 7 ∷ 1 ∷ 2 ∷ []
unfolding entry_of spelled
entry_case = refl

-- plan entries end at the first other kind, though a later byte is 1 too
leading-case : leading ((1 ∷ []) ∷ (1 ∷ []) ∷ (2 ∷ []) ∷ (1 ∷ []) ∷ []) ≡ 2
unfolding leading
leading-case = refl

-- nothing used is sound, more used than lent is not
empty-case : (book_sound 0 [] ≡ true) × (book_sound 1 [] ≡ false)
unfolding book_sound book_room plan_count plans_in updates_in leading rows_of all_plans sorted_rows chained
empty-case = (refl, refl)

-- the next message, the same message, another sender, another kind, a number left out
follow-case :
    (may_follow (head 2 1 7) (head 3 2 9) ≡ true)
    × (may_follow (head 2 1 7) (head 2 1 7) ≡ true)
    × (may_follow (head 2 1 7) (head 2 1 9) ≡ false)
    × (may_follow (head 2 1 7) (head 3 1 7) ≡ false)
    × (may_follow (head 2 1 7) (head 2 3 7) ≡ false)
unfolding may_follow number part head
follow-case = (refl, refl, refl, refl, refl)

-- message 1, withdrawn, then message 2 with two entries
updates : List (List ℕ)
updates = head 3 1 7 ∷ head 2 2 9 ∷ head 2 2 9 ∷ []

-- the next number counts withdrawn messages too, and entries only once per message
next-case : (next_number updates ≡ 3) × (next_number [] ≡ 1)
unfolding next_number last_from no_entry number part updates head
next-case = (refl, refl)

withdrawn-case : withdrawn 2 updates ≡ head 3 1 7 ∷ head 3 2 9 ∷ head 3 2 9 ∷ []
unfolding withdrawn marked_withdrawn number part updates head
withdrawn-case = refl

entries-case : message_entries 2 updates ≡ head 2 2 9 ∷ head 2 2 9 ∷ []
unfolding message_entries number part updates head
entries-case = refl
