-- How pass times and validities join: each pass time with each validity of the same owner and service level gives a plan passage. Assumes nothing.
use Rattle.std.specs.Prelude.{ℕ, Bool, ◌&&◌, List, [], ◌∷◌, ◌++◌}
use Rattle.lists.specs.Logic.{on}
use Rattle.lists.specs.Text.{same}
use Rattle.passage.specs.Layout.{owner_of}
use Rattle.plan.specs.Passes.{pass_level, validity_level, plan_body}

-- the same owner and the same service level
unfoldable pub matches : List ℕ → List ℕ → Bool
matches p v = same (owner_of p) (owner_of v) && same (pass_level p) (validity_level v)

-- the plan passages of one pass time, by the validities in their order
unfoldable pub joined_with : List ℕ → List (List ℕ) → List (List ℕ)
joined_with p [] = []
joined_with p (v ∷ vs) = on (matches p v) (plan_body p v ∷ joined_with p vs) (joined_with p vs)

-- of all pass times, in their order
unfoldable pub joined : List (List ℕ) → List (List ℕ) → List (List ℕ)
joined [] vs = []
joined (p ∷ ps) vs = joined_with p vs ++ joined ps vs
