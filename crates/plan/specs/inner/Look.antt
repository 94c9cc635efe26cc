-- How the code looks for the validities that match a pass time. Assumes nothing.
use Rattle.std.specs.Prelude.{ℕ, suc, List, [], ◌∷◌, ◌++◌}
use Rattle.lists.specs.Logic.{on}
use Rattle.lists.specs.Text.{same}
use Rattle.lists.specs.Part.{part}
use Rattle.passage.specs.Layout.{owner_of}
use Rattle.reader.specs.Passes.{validity_date_at}
use Rattle.plan.specs.Passes.{pass_level}

-- owner and service level stand side by side in a validity, before its date
abbrev pub shared_wide : ℕ
shared_wide = validity_date_at

-- the place of the first that begins with these bytes; their number where none does
unfoldable pub first_with : List ℕ → List (List ℕ) → ℕ
first_with shared [] = 0
first_with shared (v ∷ vs) = on (same shared (part 0 shared_wide v)) 0 (suc (first_with shared vs))

-- what a validity begins with if it matches: the owner and the service level of the pass time
abbrev pub shared_of : List ℕ → List ℕ
shared_of p = owner_of p ++ pass_level p
