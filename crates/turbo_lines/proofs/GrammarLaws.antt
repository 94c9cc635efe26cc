use Prim.Native.Nat.{ℕ, ◌<◌}
use native.Mathlib.Omega.{arith}
use mathlib.Core.Path.{◌≡◌, refl, sym, ap, ◌∙◌}
use mathlib.Core.List.{List, [], ◌∷◌, ◌++◌, map, append-nil}
use borrow.Author.Tests.{ne_eqb}
use Rattle.grammar.specs.Grammar.{ended, headed, Plain, Esc, Text, Field, Fields, Lines, Tables, WellFormed}
use Rattle.turbo.specs.Split.{into_first}
use Rattle.turbo.proofs.GrammarLaws.{Free}
use Rattle.turbo_lines.specs.declared.Mark.TheVariants.{Group, Table, Labels, Data}
use Rattle.turbo_lines.specs.Lines.{lines_from, lines, letter, mark_of, after_mark}
use Rattle.turbo_lines.specs.Told.{MarkedLine, lines_in, tables_in, dossier_in}
use Rattle.turbo_lines.specs.Claims.{walked}

-- The walk's split of a dossier is the grammar's: CR stands only in line ends. Assumes nothing.

free-append : (x : ℕ) {l m : List ℕ} → Free x l → Free x m → Free x (l ++ m)
free-append x Free.none g = g
free-append x (Free.byte n f) g = Free.byte n (free-append x f g)

pub differ' : (a b : ℕ) → b < a → a ≡ b → ⊥
differ' a b h e = omega arith

-- no byte below 32, CR and LF among them, stands in fields
module _ (x : ℕ) (low : x < 32) where
  esc-free : (e : ℕ) → Esc e → e ≡ x → ⊥
  esc-free e Esc.slash q = omega arith
  esc-free e Esc.lf q = omega arith
  esc-free e Esc.bar q = omega arith
  esc-free e Esc.cr q = omega arith

  plain-free : (b : ℕ) → Plain b → b ≡ x → ⊥
  plain-free b p q = let h = p.above in omega arith

  text-free : {l : List ℕ} → Text l → Free x l
  text-free Text.empty = Free.none
  text-free (Text.plain {b} p t) = Free.byte (plain-free b p) (text-free t)
  text-free (Text.esc {e} p t) = Free.byte (differ' 92 x (omega arith)) (Free.byte (esc-free e p) (text-free t))

  field-free : {l : List ℕ} → Field l → Free x l
  field-free (Field.text t) = text-free t
  field-free Field.null = Free.byte (differ' 92 x (omega arith)) (Free.byte (differ' 48 x (omega arith)) Free.none)

  pub fields_free : {l : List ℕ} → Fields l → Free x l
  fields_free (Fields.one f) = field-free f
  fields_free (Fields.more f g) = free-append x (field-free f) (Free.byte (differ' 124 x (omega arith)) (fields_free g))

-- a line with no CR, before its line end
pub line_before : {f : List ℕ} (r : List ℕ) → Free 13 f → lines (ended f r) ≡ f ∷ lines r
unfolding lines_from
line_before r Free.none = refl
line_before r (Free.byte {b} n f) = rw (ne_eqb b 13 n) (ap (into_first b) (line_before r f))

-- a line behind a mark's two bytes
marked-before : (m : ℕ) {f : List ℕ} (r : List ℕ) → (m ≡ 13 → ⊥) → Free 13 f → lines (92 ∷ m ∷ ended f r) ≡ (92 ∷ m ∷ f) ∷ lines r
marked-before m r h f = line_before r (Free.byte (differ' 92 13 (omega arith)) (Free.byte h f))

-- the mark of a data line: no field begins like one
letter-of : (e : ℕ) → Esc e → letter e ≡ Data
letter-of e Esc.slash = refl
letter-of e Esc.lf = refl
letter-of e Esc.bar = refl
letter-of e Esc.cr = refl

mark-other : (b : ℕ) (l : List ℕ) → (b ≡ 92 → ⊥) → mark_of (b ∷ l) ≡ Data
unfolding mark_of
mark-other b [] h = refl
mark-other b (c ∷ l) h = rw (ne_eqb b 92 h)

text-mark : {l : List ℕ} (r : List ℕ) → Text l → mark_of r ≡ Data → mark_of (l ++ r) ≡ Data
unfolding mark_of
text-mark r Text.empty h = h
text-mark r (Text.plain {b} {l} p t) h = mark-other b (l ++ r) p.no_slash
text-mark r (Text.esc {e} p t) h = letter-of e p

field-mark : {f : List ℕ} (r : List ℕ) → Field f → mark_of r ≡ Data → mark_of (f ++ r) ≡ Data
unfolding mark_of
field-mark r (Field.text t) h = text-mark r t h
field-mark r Field.null h = refl

nothing-mark : mark_of [] ≡ Data
unfolding mark_of
nothing-mark = refl

data-mark : {f : List ℕ} → Fields f → mark_of f ≡ Data
data-mark (Fields.one {f} g) = ap mark_of (sym (append-nil f)) ∙ field-mark [] g nothing-mark
data-mark (Fields.more {l} f g) = field-mark (124 ∷ l) f (mark-other 124 l (differ' 124 92 (omega arith)))

-- a line of each kind, walked
walked-data : {f : List ℕ} → Fields f → walked f ≡ (Data, f)
unfolding after_mark
walked-data {f} g = rw (data-mark g)

walked-table : (f : List ℕ) → walked (92 ∷ 84 ∷ f) ≡ (Table, f)
unfolding mark_of after_mark
walked-table f = refl

walked-labels : (f : List ℕ) → walked (92 ∷ 76 ∷ f) ≡ (Labels, f)
unfolding mark_of after_mark
walked-labels f = refl

walked-group : (f : List ℕ) → walked (92 ∷ 71 ∷ f) ≡ (Group, f)
unfolding mark_of after_mark
walked-group f = refl

-- the two lines that head a table
walked-head : {t l : List ℕ} (r : List ℕ) → Fields t → Fields l → map walked (lines (headed t l r)) ≡ (Table, t) ∷ (Labels, l) ∷ map walked (lines r)
walked-head {t} {l} r g h =
    ap (map walked) (marked-before 84 _ (differ' 84 13 (omega arith)) (fields_free 13 (omega arith) g) ∙ ap (λ (ls : List (List ℕ)). (92 ∷ 84 ∷ t) ∷ ls) (marked-before 76 r (differ' 76 13 (omega arith)) (fields_free 13 (omega arith) h)))
    ∙ ap (λ (a : MarkedLine). a ∷ walked (92 ∷ 76 ∷ l) ∷ map walked (lines r)) (walked-table t)
    ∙ ap (λ (a : MarkedLine). (Table, t) ∷ a ∷ map walked (lines r)) (walked-labels l)

lines-grammar : {l : List ℕ} (d : Lines l) → map walked (lines l) ≡ lines_in d
unfolding lines_from
lines-grammar Lines.end = refl
lines-grammar (Lines.line {f} {r} g d) =
    ap (map walked) (line_before r (fields_free 13 (omega arith) g)) ∙ ap (λ (a : MarkedLine). a ∷ map walked (lines r)) (walked-data g) ∙ ap (λ (ls : List MarkedLine). (Data, f) ∷ ls) (lines-grammar d)
lines-grammar (Lines.table {t} {l} {r} g h d) =
    walked-head r g h ∙ ap (λ (ls : List MarkedLine). (Table, t) ∷ (Labels, l) ∷ ls) (lines-grammar d)

tables-grammar : {l : List ℕ} (d : Tables l) → map walked (lines l) ≡ tables_in d
unfolding lines_from
tables-grammar Tables.none = refl
tables-grammar (Tables.table {t} {l} {r} g h d) =
    walked-head r g h ∙ ap (λ (ls : List MarkedLine). (Table, t) ∷ (Labels, l) ∷ ls) (lines-grammar d)

pub dossier-grammar : {d : List ℕ} (w : WellFormed d) → map walked (lines d) ≡ dossier_in w
dossier-grammar (WellFormed.dossier {g} {t} f d) =
    ap (map walked) (marked-before 71 t (differ' 71 13 (omega arith)) (fields_free 13 (omega arith) f))
    ∙ ap (λ (a : MarkedLine). a ∷ map walked (lines t)) (walked-group g)
    ∙ ap (λ (ls : List MarkedLine). (Group, g) ∷ ls) (tables-grammar d)
