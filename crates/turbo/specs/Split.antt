-- What stands before and after a byte, and a line's fields. In a well-formed dossier a bar stands only between fields, so they are found by one byte.
-- Assumes nothing.
use Rattle.std.specs.Prelude.{ℕ, zero, suc, List, [], ◌∷◌, get_or, eqb}
use Rattle.lists.specs.Logic.{on}

-- what stands before the first x, and after it
unfoldable pub until : ℕ → List ℕ → List ℕ
until x [] = []
until x (b ∷ l) = on (eqb b x) [] (b ∷ until x l)

unfoldable pub past : ℕ → List ℕ → List ℕ
past x [] = []
past x (b ∷ l) = on (eqb b x) l (past x l)

-- a byte more at the front of the first field
abbrev pub into_first : ℕ → List (List ℕ) → List (List ℕ)
into_first b [] = (b ∷ []) ∷ []
into_first b (f ∷ fs) = (b ∷ f) ∷ fs

-- the fields of a line: one more than it has bars
unfoldable pub fields : List ℕ → List (List ℕ)
fields [] = [] ∷ []
fields (b ∷ l) = on (eqb b 124) ([] ∷ fields l) (into_first b (fields l))

-- field k, from 0; nothing past the last
unfoldable pub field_at : ℕ → List ℕ → List ℕ
field_at k l = get_or (fields l) k []

-- the tail of a line after its first k bars; nothing where it has fewer
unfoldable pub tail_at : ℕ → List ℕ → List ℕ
tail_at zero l = l
tail_at (suc k) l = tail_at k (past 124 l)
