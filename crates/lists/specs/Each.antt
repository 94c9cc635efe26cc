-- A property that each element of a list has. Assumes nothing.
use Rattle.std.specs.Prelude.{ℕ, ◌<◌, List, [], ◌∷◌}

-- P holds of each element
abbrev pub Each : {A : Type 0} → (A → Type 0) → List A → Type 0
Each P [] = Unit {0}
Each P (x ∷ l) = P x × Each P l

-- each element is a byte
abbrev pub Bytes : List ℕ → Type 0
Bytes l = Each (λ (b : ℕ). b < 256) l
