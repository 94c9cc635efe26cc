-- Parts of lists, and writes over them. Assumes nothing.
use Rattle.std.specs.Prelude.{ℕ, zero, suc, Bool, true, false, List, [], ◌∷◌, take, drop}

-- the n elements of l from index `at` on
unfoldable pub part : {A : Type 0} → ℕ → ℕ → List A → List A
part at n l = take n (drop at l)

-- d with vs written over its front, as far as d reaches
unfoldable pub onto : {A : Type 0} → List A → List A → List A
onto [] d = d
onto (v ∷ vs) [] = []
onto (v ∷ vs) (x ∷ d) = v ∷ onto vs d

-- d with vs written over it from index `at` on, as far as d reaches
unfoldable pub over : {A : Type 0} → ℕ → List A → List A → List A
unfolding onto
over zero vs d = onto vs d
over (suc at) vs [] = []
over (suc at) vs (x ∷ d) = x ∷ over at vs d

-- there is at least one
abbrev pub some : List ℕ → Bool
some [] = false
some (b ∷ l) = true
