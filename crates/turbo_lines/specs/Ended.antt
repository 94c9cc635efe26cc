-- The lines of a dossier that comes in parts: each ends at its LF, and what stands behind the last LF is held for the next part. Assumes nothing.
use Rattle.std.specs.Prelude.{ℕ, ◌-◌, List, [], ◌∷◌, ◌++◌, eqb, length, take}
use Rattle.lists.specs.Logic.{on}

-- a line without its last byte, which is CR where the form is right
abbrev pub without_return : List ℕ → List ℕ
without_return l = take (length l - 1) l

-- the lines that an LF of the bytes ends, where the first has the bytes h already
unfoldable pub ended_lines : List ℕ → List ℕ → List (List ℕ)
ended_lines h [] = []
ended_lines h (b ∷ d) = on (eqb b 10) (without_return h ∷ ended_lines [] d) (ended_lines (h ++ b ∷ []) d)

-- the bytes behind the last LF; with h where there is none
unfoldable pub held_bytes : List ℕ → List ℕ → List ℕ
held_bytes h [] = h
held_bytes h (b ∷ d) = on (eqb b 10) (held_bytes [] d) (held_bytes (h ++ b ∷ []) d)
