-- The joined pairs, and what area is enough for them. Assumes nothing.
use Rattle.std.specs.Prelude.{ℕ, ◌*◌, ◌≤◌, ◌⊎◌, List, leb}
use Rattle.lists.specs.Logic.{on}
use Rattle.lists.specs.Rows.{rows_of}
use Rattle.passage.specs.Layout.{body_wide}
use Rattle.reader.specs.Passes.{pass_wide, validity_wide}
use Rattle.plan.specs.Rules.{joined}
use Rattle.opening_write.specs.inner.Steps.{most_plans}

-- np pass times and nv validities that are staged, joined
abbrev pub staged_pairs : ℕ → List ℕ → ℕ → List ℕ → List (List ℕ)
staged_pairs np passes nv validities = joined (rows_of pass_wide np passes) (rows_of validity_wide nv validities)

-- ---- areas, by their length

unfoldable pub fewer : ℕ → ℕ → ℕ
fewer a b = on (leb a b) a b

-- few pairs have a small area
abbrev pub few_pairs : ℕ
few_pairs = 640

-- k bytes hold each pair's body, or as many as any book has room for
abbrev pub Enough : ℕ → ℕ → ℕ → Type 0
Enough np nv k = (np * nv * body_wide ≤ k) ⊎ (most_plans * body_wide ≤ k)
