-- Quiet bytes, and whether a field begins where they end.
-- Assumes nothing.
use Rattle.std.specs.Prelude.{ℕ, suc, ◌-◌, Bool, ◌||◌, List, [], ◌∷◌, eqb, ltb, get_or}
use Rattle.lists.specs.Logic.{on}

-- a loud byte ends a run of text: below 32, or a backslash. A quiet one changes only whether a field begins behind it
unfoldable pub loud : ℕ → Bool
loud b = ltb b 32 || eqb b 92

-- how many bytes stand before the first loud one
unfoldable pub quiet_for : List ℕ → ℕ
quiet_for [] = 0
quiet_for (b ∷ l) = on (loud b) 0 (suc (quiet_for l))

-- whether a field begins at j, where the bytes from i to j are quiet and f says it of i
abbrev pub fresh_at : List ℕ → ℕ → ℕ → Bool → Bool
fresh_at d i j f = on (ltb i j) (eqb (get_or d (j - 1) 0) 124) f
