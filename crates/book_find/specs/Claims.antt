-- What is claimed of where a message is found, for any used bytes and any book. Assumes nothing.
use Rattle.std.specs.Prelude.{◌≡◌, true, List, [], ℕ, ◌+◌, ◌*◌, ◌≤◌, ◌<◌, length, drop, None, Some}
use Rattle.lists.specs.Rows.{rows_of}
use Rattle.book.specs.Entries.{plan_wide, entry_wide, plan_count, updates_in}
use Rattle.book.specs.Rules.{book_sound, message_entries}
use Rattle.book_find.specs.inner.Held.{held_as}

-- a message that is found stands there with all its entries, one behind the other; one that is not found has none
abbrev pub FoundMessage : Type 0
FoundMessage =
    (used : ℕ) (b : List ℕ) (n : ℕ) →
    book_sound used b ≡ true →
    let us = updates_in used b in
    ((i k : ℕ) → held_as n us ≡ Some (i, k) → (i + k ≤ length us) × (0 < k) × (rows_of entry_wide k (drop (plan_count used b * plan_wide + i * entry_wide) b) ≡ message_entries n us))
    × (held_as n us ≡ None → message_entries n us ≡ [])

-- all of these
abbrev pub All : Type 0
All = FoundMessage
