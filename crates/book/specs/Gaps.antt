-- Message numbers with gaps: what may follow, and entries of which some are left out. Assumes nothing.
use Rattle.std.specs.Prelude.{ℕ, Bool, true, ◌&&◌, ◌||◌, List, [], ◌∷◌, eqb, ltb}
use Rattle.lists.specs.Logic.{on}
use Rattle.book.specs.Entries.{kind_of, number_of, sender_of}
use Rattle.book.specs.Rules.{entry_in_range}

-- a later message begins, or the same goes on
unfoldable pub follows : List ℕ → List ℕ → Bool
follows before e = ltb (number_of before) (number_of e) || (eqb (number_of e) (number_of before) && (eqb (sender_of e) (sender_of before) && eqb (kind_of e) (kind_of before)))

unfoldable pub linked : List ℕ → List (List ℕ) → Bool
linked before [] = true
linked before (e ∷ es) = entry_in_range e && (follows before e && linked e es)

-- the entries that have P
unfoldable pub left : (List ℕ → Bool) → List (List ℕ) → List (List ℕ)
left P [] = []
left P (e ∷ es) = on (P e) (e ∷ left P es) (left P es)
