-- A dossier cut into parts. Assumes nothing.
use Rattle.std.specs.Prelude.{ℕ, zero, suc, List, [], ◌∷◌, length, take, drop}

-- at most n parts
unfoldable pub cut_for : ℕ → ℕ → List ℕ → List (List ℕ)
cut_for zero size d = []
cut_for (suc n) size [] = []
cut_for (suc n) size (b ∷ d) = take size (b ∷ d) ∷ cut_for n size (drop size (b ∷ d))

-- parts of so many bytes, the last of what is left
unfoldable pub cut : ℕ → List ℕ → List (List ℕ)
cut size d = cut_for (length d) size d
