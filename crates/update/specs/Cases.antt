-- Statuses, optionals and the row rule run on small examples. Assumes nothing.
use Rattle.std.specs.Prelude.{◌≡◌, refl, List, [], ◌∷◌, ◌++◌, ℕ, replicate}
use Rattle.passage.specs.Layout.{kept, stamp_at}
use Rattle.update.specs.Moves.{table17, may_move, status_after, keeps}
use Rattle.update.specs.Rule.{apply_row, beginning, row_rule}

-- ARRIVED then DRIVING stays ARRIVED, PASSED then ARRIVED is ARRIVED, CANCEL then PLANNED is PLANNED, PASSED then CANCEL stays PASSED
status-case : (status_after 4 3 ≡ 4) × (status_after 5 4 ≡ 4) × (status_after 1 0 ≡ 0) × (status_after 5 1 ≡ 5)
unfolding may_move table17
status-case = (refl, refl, refl, refl)

-- 255 keeps what is held
keeps-case : (keeps 2 kept ≡ 2) × (keeps 2 0 ≡ 0)
keeps-case = (refl, refl)

-- bytes x up to the status, which is s; then times y, a stop type z, and the rest
of : ℕ → ℕ → ℕ → ℕ → List ℕ → List ℕ
of x s y z rest = replicate stamp_at x ++ x ∷ x ∷ x ∷ x ∷ s ∷ y ∷ y ∷ y ∷ y ∷ y ∷ y ∷ z ∷ rest

-- of a row that is ARRIVED, an update with DRIVING and no optionals changes all but the status and the three optionals
stays-case : row_rule (of 7 4 8 1 (1 ∷ 2 ∷ 1 ∷ 1 ∷ [])) (of 7 3 9 2 (kept ∷ kept ∷ kept ∷ [])) ≡ of 7 4 9 2 (1 ∷ 2 ∷ 1 ∷ 1 ∷ [])
unfolding of row_rule apply_row may_move table17
stays-case = refl

-- of none, it is PLANNED before
begins-case : row_rule [] (of 7 3 9 2 (kept ∷ kept ∷ kept ∷ [])) ≡ of 7 3 9 2 (1 ∷ 0 ∷ 0 ∷ 1 ∷ [])
unfolding of row_rule apply_row beginning may_move table17
begins-case = refl

-- optionals that are given replace the held ones
given-case : row_rule (of 7 5 8 1 (1 ∷ 2 ∷ 1 ∷ 0 ∷ [])) (of 7 1 9 2 (0 ∷ 3 ∷ 0 ∷ [])) ≡ of 7 5 9 2 (0 ∷ 3 ∷ 0 ∷ 1 ∷ [])
unfolding of row_rule apply_row may_move table17
given-case = refl
