-- A list of bytes read as rows of w bytes. Assumes nothing.
use Rattle.std.specs.Prelude.{◌≡◌, ℕ, zero, suc, ◌-◌, ◌*◌, List, [], ◌∷◌, ◌++◌, length, take, drop, replicate}
use Rattle.lists.specs.Each.{Each}
use Rattle.lists.specs.Part.{onto}

-- the first n rows of w bytes of t
unfoldable pub rows_of : ℕ → ℕ → List ℕ → List (List ℕ)
rows_of w zero t = []
rows_of w (suc n) t = take w t ∷ rows_of w n (drop w t)

-- rows as bytes again
unfoldable pub flat : List (List ℕ) → List ℕ
flat [] = []
flat (r ∷ rs) = r ++ flat rs

-- each row has w bytes
abbrev pub Wide : ℕ → List (List ℕ) → Type 0
Wide w rs = Each (λ (r : List ℕ). length r ≡ w) rs

-- with row r put in at place i
abbrev pub insert_at : ℕ → List ℕ → List (List ℕ) → List (List ℕ)
insert_at i r rs = take i rs ++ (r ∷ drop i rs)

-- without the row at place i
abbrev pub remove_at : ℕ → List (List ℕ) → List (List ℕ)
remove_at i rs = take i rs ++ drop (suc i) rs

-- the bytes t that held n rows, once they hold the rows rs: what n rows had and rs has not becomes zero, and the rest keeps its contents
unfoldable pub store : ℕ → ℕ → List (List ℕ) → List ℕ → List ℕ
store w n rs t = onto (flat rs ++ replicate ((n - length rs) * w) 0) t
