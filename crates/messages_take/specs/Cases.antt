-- Updates taken one after another, on small examples. Assumes nothing.
use Rattle.std.specs.Prelude.{◌≡◌, refl, List, [], ◌∷◌, ◌++◌, ℕ, ◌-◌, replicate}
use Rattle.lists.specs.Part.{part}
use Rattle.passage.specs.Layout.{key_wide, status_at, arrival_at, show_cancelled_at, kept}
use Rattle.keys.specs.Keys.{cmp}
use Rattle.keys.specs.Sorted.{get, put}
use Rattle.keys.specs.Replay.{taken, taken_all}
use Rattle.update.specs.Moves.{table17, may_move}
use Rattle.update.specs.Rule.{apply_row, beginning, row_rule}

-- of a key of bytes k: other bytes x, the status, and what stands behind the stop type
of : ℕ → ℕ → ℕ → List ℕ → List ℕ
of k x status rest = replicate key_wide k ++ replicate (status_at - key_wide) x ++ status ∷ replicate (show_cancelled_at - arrival_at) x ++ rest

abbrev none : List ℕ
none = kept ∷ kept ∷ kept ∷ []

abbrev first : List ℕ
first = 1 ∷ 0 ∷ 0 ∷ 1 ∷ []

-- CANCEL then UNKNOWN of one passage that is missing: one row, CANCEL, with the last update's other fields; UNKNOWN alone: UNKNOWN
one-key-case :
    (taken_all row_rule (of 5 1 1 none ∷ of 5 2 2 none ∷ []) [] ≡ of 5 2 1 first ∷ [])
    × (taken_all row_rule (of 5 2 2 none ∷ []) [] ≡ of 5 2 2 first ∷ [])
unfolding of taken_all taken get put cmp part row_rule apply_row beginning may_move table17
one-key-case = (refl, refl)

-- each goes to the row of its key, and a new one to its place by key
two-keys-case :
    taken_all row_rule (of 4 3 3 none ∷ of 5 3 4 none ∷ of 5 9 3 none ∷ []) (of 5 1 0 first ∷ of 6 1 0 first ∷ [])
    ≡ of 4 3 3 first ∷ of 5 9 4 first ∷ of 6 1 0 first ∷ []
unfolding of taken_all taken get put cmp part row_rule apply_row beginning may_move table17
two-keys-case = refl
