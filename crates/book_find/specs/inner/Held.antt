-- Where a message is found: counts of updates by their number. Assumes nothing.
use Rattle.std.specs.Prelude.{ℕ, Bool, List, eqb, length, drop, Option, None, Some}
use Rattle.lists.specs.Logic.{on}
use Rattle.book.specs.inner.Steps.{first_entry_of, run_of}

-- how many of these stand before the first of another message than n; if not `own`, before the first of message n
abbrev pub leading_of : Bool → ℕ → List (List ℕ) → ℕ
leading_of own n us = on own (run_of n us) (first_entry_of n us)

-- the place of the first entry of message n among the updates, and how many follow each other from there
unfoldable pub held_as : ℕ → List (List ℕ) → Option (ℕ × ℕ)
held_as n us = on (eqb (first_entry_of n us) (length us)) None (Some (first_entry_of n us, run_of n (drop (first_entry_of n us) us)))
