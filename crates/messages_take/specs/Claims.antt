-- What is claimed of updates us taken into sorted rows rs, one after another. Assumes nothing.
use Rattle.std.specs.Prelude.{◌≡◌, true, List, ◌≢◌, ℕ, ◌+◌, ◌≤◌, length}
use Rattle.lists.specs.Each.{Each}
use Rattle.lists.specs.Rows.{Wide}
use Rattle.passage.specs.Layout.{body_wide, row_wide, key_of}
use Rattle.passage.specs.Ranges.{update_in_range, row_in_range}
use Rattle.keys.specs.Sorted.{sorted_rows, get}
use Rattle.keys.specs.Replay.{taken, taken_all, replayed}
use Rattle.update.specs.Rule.{row_rule}

-- An update changes the passage with its key by the row rule.
abbrev pub ChangesItsOwn : Type 0
ChangesItsOwn =
    (u : List ℕ) (rs : List (List ℕ))
    → length u ≡ body_wide
    → get (key_of u) (taken row_rule u rs) ≡ row_rule (get (key_of u) rs) u

-- It changes no other.
abbrev pub ChangesNoOther : Type 0
ChangesNoOther =
    (u k : List ℕ) (rs : List (List ℕ))
    → length u ≡ body_wide
    → key_of u ≢ k
    → get k (taken row_rule u rs) ≡ get k rs

-- Of updates taken one after another, each passage sees those with its key, in their order.
abbrev pub AppliedInOrder : Type 0
AppliedInOrder =
    (us rs : List (List ℕ)) (k : List ℕ)
    → Wide body_wide us
    → get k (taken_all row_rule us rs) ≡ replayed row_rule k (get k rs) us

-- The rows stay sorted, and whole rows.
abbrev pub StaySorted : Type 0
StaySorted =
    (us rs : List (List ℕ))
    → (sorted_rows rs ≡ true → sorted_rows (taken_all row_rule us rs) ≡ true)
    × (Wide body_wide us → Wide row_wide rs → Wide row_wide (taken_all row_rule us rs))

abbrev pub RowsInRange : List (List ℕ) → Type 0
RowsInRange rs = Each (λ (r : List ℕ). row_in_range r ≡ true) rs

abbrev pub UpdatesInRange : List (List ℕ) → Type 0
UpdatesInRange us = Each (λ (u : List ℕ). update_in_range u ≡ true) us

-- Updates in range make of rows in range rows in range.
abbrev pub StayInRange : Type 0
StayInRange = (us rs : List (List ℕ)) → Wide body_wide us → UpdatesInRange us → RowsInRange rs → RowsInRange (taken_all row_rule us rs)

-- No row leaves, and at most one comes with each update.
abbrev pub Counts : Type 0
Counts =
    (us rs : List (List ℕ))
    → (length rs ≤ length (taken_all row_rule us rs))
    × (length (taken_all row_rule us rs) ≤ length rs + length us)

-- All of them.
abbrev pub All : Type 0
All =
    ChangesItsOwn
    × ChangesNoOther
    × AppliedInOrder
    × StaySorted
    × StayInRange
    × Counts
