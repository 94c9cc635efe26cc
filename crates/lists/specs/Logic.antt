-- Tests as Bools, and a choice by a test. Assumes nothing.
use Rattle.std.specs.Prelude.{ℕ, Bool, true, false, ◌&&◌, List, [], ◌∷◌, leb}

-- a where the test passes, else b
abbrev pub on : {A : Type 0} → Bool → A → A → A
on true a b = a
on false a b = b

-- lo ≤ x ≤ hi
abbrev pub within : ℕ → ℕ → ℕ → Bool
within lo hi x = leb lo x && leb x hi

-- a line of a table of answers: whether it holds, and what it gives
abbrev pub Line : Type 0 → Type 0
Line A = Bool × A

-- of the lines that hold, the first is given; `last` where none holds
abbrev pub first_held : {A : Type 0} → List (Line A) → A → A
first_held [] last = last
first_held (l ∷ ls) last = on l.0 l.1 (first_held ls last)
