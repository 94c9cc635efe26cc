-- What is certain of the walk over a dossier. `proofs/Claims.antt` proves it. Assumes nothing.
use Rattle.std.specs.Prelude.{ℕ, ◌+◌, ◌≤◌, ◌<◌, ◌≡◌, List, [], ◌∷◌, ◌++◌, map, ◌↔◌, length, Some}
use Rattle.std.specs.Option.{unwrap_or}
use Rattle.lists.specs.Each.{Each}
use Rattle.grammar.specs.Grammar.{WellFormed}
use Rattle.turbo_lines.specs.Lines.{lines, long_line, first_long, short_front, mark_of, after_mark}
use Rattle.turbo_lines.specs.Told.{MarkedLine, dossier_in}
use Rattle.turbo_lines.specs.Ended.{ended_lines, held_bytes}

-- a line as the walk has it
abbrev pub walked : List ℕ → MarkedLine
walked l = (mark_of l, after_mark l)

-- the walk by lines gives the grammar's lines, each with its mark
abbrev pub LinesAreTheGrammars : Type 0
LinesAreTheGrammars = (d : List ℕ) (w : WellFormed d) → map walked (lines d) ≡ dossier_in w

-- ---- lines that are too long

-- with its CR LF a line has no more than 4,096 bytes
abbrev pub Short : List ℕ → Type 0
Short l = length l + 2 ≤ 4096

-- the line with the number n, from 1, has more, and none before it has
pub record LongAt (ls : List (List ℕ)) (n : ℕ) : Type 0 where
  pub before : List (List ℕ)
  pub line : List ℕ
  pub after : List (List ℕ)
  pub split : ls ≡ before ++ line ∷ after
  pub short : Each Short before
  pub long : 4096 < length line + 2
  pub number : n ≡ length before + 1

-- a line that is too long is found exactly where it is the first such
abbrev pub LongFound : Type 0
LongFound = (ls : List (List ℕ)) (n : ℕ) → 1 ≤ n → (first_long 1 ls ≡ n) ↔ LongAt ls n

-- none is found exactly where no line is too long
abbrev pub NoneLong : Type 0
NoneLong = (ls : List (List ℕ)) → (first_long 1 ls ≡ 0) ↔ Each Short ls

-- what the search gives, `long_line`, is this number, with none for 0, and never a number below that of the first line: so the two claims above are claims of the search from 1
abbrev pub LongIsNumbered : Type 0
LongIsNumbered =
    (n : ℕ) (ls : List (List ℕ)) →
    (first_long n ls ≡ unwrap_or (long_line n ls) 0) × ((m : ℕ) → long_line n ls ≡ Some m → n ≤ m)

-- the front of short lines is what stands before that line, and where there is none it is all lines
abbrev pub FrontIsBefore : Type 0
FrontIsBefore = (ls : List (List ℕ)) → ((n : ℕ) (x : LongAt ls n) → short_front ls ≡ x.before) × (Each Short ls → short_front ls ≡ ls)

-- the lines that end in two parts are those that end in the first, then those that end in the second behind what the first has left
abbrev pub LinesPartByPart : Type 0
LinesPartByPart =
    (h a b : List ℕ) →
    (ended_lines h (a ++ b) ≡ ended_lines h a ++ ended_lines (held_bytes h a) b)
    × (held_bytes h (a ++ b) ≡ held_bytes (held_bytes h a) b)

-- of a whole dossier they are its lines, and nothing is held
abbrev pub EndedAreTheLines : Type 0
EndedAreTheLines = (d : List ℕ) → WellFormed d → (ended_lines [] d ≡ lines d) × (held_bytes [] d ≡ [])

-- all of these
abbrev pub All : Type 0
All = LinesAreTheGrammars × LongFound × NoneLong × LongIsNumbered × FrontIsBefore × LinesPartByPart × EndedAreTheLines
