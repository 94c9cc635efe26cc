-- What is claimed of the ranges. Assumes nothing.
use Rattle.std.specs.Prelude.{◌≡◌, true, List, [], ◌∷◌, ◌++◌, ◌↔◌, ℕ, length}
use Rattle.texts.specs.Texts.{padded, is_text}
use Rattle.passage.specs.Layout.{body_wide, key_of}
use Rattle.passage.specs.Ranges.{padded_text, key_in_range, update_in_range, plan_in_range, row_in_range}
use Rattle.passage.specs.Facts.{KeyFacts, UpdateFacts, PlanFacts, RowFacts}

-- A padded text is exactly a text that fields keep, 1 to 10 bytes of 32 to 126, padded with zero bytes to ten.
abbrev pub PaddedExactly : Type 0
PaddedExactly = (l : List ℕ) → (padded_text l ≡ true) ↔ ((t : List ℕ) × (is_text t ≡ true) × (l ≡ padded t))

-- A key is in range exactly where each of its fields is.
abbrev pub KeyExactly : Type 0
KeyExactly = (k : List ℕ) → (key_in_range k ≡ true) ↔ KeyFacts k

-- An update is in range exactly where each of its fields is.
abbrev pub UpdateExactly : Type 0
UpdateExactly = (b : List ℕ) → (update_in_range b ≡ true) ↔ UpdateFacts b

-- A plan entry is in range exactly where it has what open writes.
abbrev pub PlanExactly : Type 0
PlanExactly = (b : List ℕ) → (plan_in_range b ≡ true) ↔ PlanFacts b

-- A row is in range exactly where each of its fields is, and the timestamp is 0 exactly with heard 0.
abbrev pub RowExactly : Type 0
RowExactly = (r : List ℕ) → (row_in_range r ≡ true) ↔ RowFacts r

-- What is in range begins with a key in range.
abbrev pub KeysInRange : Type 0
KeysInRange =
    (b : List ℕ)
    → (update_in_range b ≡ true → key_in_range (key_of b) ≡ true)
    × (plan_in_range b ≡ true → key_in_range (key_of b) ≡ true)
    × (row_in_range b ≡ true → key_in_range (key_of b) ≡ true)

-- A plan entry's body with heard 0 behind it is a row in range.
abbrev pub PlanIsRow : Type 0
PlanIsRow = (b : List ℕ) → length b ≡ body_wide → plan_in_range b ≡ true → row_in_range (b ++ 0 ∷ []) ≡ true

-- All of them.
abbrev pub All : Type 0
All =
    PaddedExactly
    × KeyExactly
    × UpdateExactly
    × PlanExactly
    × RowExactly
    × KeysInRange
    × PlanIsRow
