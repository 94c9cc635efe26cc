-- What a well-formed dossier says, read off the grammar alone: its lines with their marks. The claims hold the walk to it. Assumes nothing.
use Rattle.std.specs.Prelude.{ℕ, List, [], ◌∷◌}
use Rattle.grammar.specs.Grammar.{Lines, Tables, WellFormed}
use Rattle.turbo_lines.specs.declared.Mark.{Mark}
use Rattle.turbo_lines.specs.declared.Mark.TheVariants.{Group, Table, Labels, Data}

-- a line: its mark, and what stands behind the mark
abbrev pub MarkedLine : Type 0
MarkedLine = Mark × List ℕ

abbrev pub lines_in : {l : List ℕ} → Lines l → List MarkedLine
lines_in Lines.end = []
lines_in (Lines.line {f} g r) = (Data, f) ∷ lines_in r
lines_in (Lines.table {t} {l} g h r) = (Table, t) ∷ (Labels, l) ∷ lines_in r

abbrev pub tables_in : {l : List ℕ} → Tables l → List MarkedLine
tables_in Tables.none = []
tables_in (Tables.table {t} {l} g h r) = (Table, t) ∷ (Labels, l) ∷ lines_in r

abbrev pub dossier_in : {d : List ℕ} → WellFormed d → List MarkedLine
dossier_in (WellFormed.dossier {g} f t) = (Group, g) ∷ tables_in t
