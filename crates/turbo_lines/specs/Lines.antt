-- A dossier's lines, which of them are too long, and their marks. In a well-formed dossier CR stands only in line ends, so lines are found by one byte. Assumes nothing.
use Rattle.std.specs.Prelude.{ℕ, suc, ◌+◌, Bool, true, false, List, [], ◌∷◌, Option, Some, None, length, drop, eqb, ltb}
use Rattle.lists.specs.Logic.{on}
use Rattle.turbo.specs.Split.{into_first}
use Rattle.turbo_lines.specs.declared.Mark.{Mark}
use Rattle.turbo_lines.specs.declared.Mark.TheVariants.{Group, Table, Labels, Data}

-- the lines of a dossier: CR ends a line, and the byte after it goes with it
unfoldable pub lines_from : Bool → List ℕ → List (List ℕ)
lines_from true [] = []
lines_from true (b ∷ l) = lines_from false l
lines_from false [] = []
lines_from false (b ∷ l) = on (eqb b 13) ([] ∷ lines_from true l) (into_first b (lines_from false l))

abbrev pub lines : List ℕ → List (List ℕ)
lines d = lines_from false d

-- ---- lines that are too long

-- the most bytes of a line, its CR LF among them
abbrev pub longest_line : ℕ
longest_line = 4096

abbrev pub is_long : List ℕ → Bool
is_long l = ltb longest_line (length l + 2)

-- the number of the first line that is too long, where the first of all has the number n
unfoldable pub long_line : ℕ → List (List ℕ) → Option ℕ
long_line n [] = None
long_line n (l ∷ ls) = on (is_long l) (Some n) (long_line (suc n) ls)

-- the same with 0 for none, as a table of refusals has it
unfoldable pub first_long : ℕ → List (List ℕ) → ℕ
first_long n [] = 0
first_long n (l ∷ ls) = on (is_long l) n (first_long (suc n) ls)

-- the lines before it
unfoldable pub short_front : List (List ℕ) → List (List ℕ)
short_front [] = []
short_front (l ∷ ls) = on (is_long l) [] (l ∷ short_front ls)

-- ---- marks

-- a line's mark, by the letter behind a first backslash
abbrev pub letter : ℕ → Mark
letter b = on (eqb b 71) Group (on (eqb b 84) Table (on (eqb b 76) Labels Data))

unfoldable pub mark_of : List ℕ → Mark
mark_of [] = Data
mark_of (a ∷ []) = Data
mark_of (a ∷ b ∷ l) = on (eqb a 92) (letter b) Data

-- the bytes of a line behind its mark
abbrev pub behind : Mark → List ℕ → List ℕ
behind Group l = drop 2 l
behind Table l = drop 2 l
behind Labels l = drop 2 l
behind Data l = l

unfoldable pub after_mark : List ℕ → List ℕ
after_mark l = behind (mark_of l) l
