-- The lines that LF ends: over parts, by the first LF, and of a well-formed dossier. Assumes nothing.
use Prim.Native.Nat.{ℕ, suc, ◌+◌, ◌-◌, ◌≤◌, ◌<◌}
use native.Mathlib.Omega.{arith}
use mathlib.Core.Path.{◌≡◌, refl, sym, ap, ◌∙◌}
use mathlib.Core.Bool.{Bool, true, false}
use mathlib.Core.List.{List, [], ◌∷◌, ◌++◌, append_assoc, append-nil}
use borrow.Author.Tests.{ne_eqb}
use lib.Dec.{eqb}
use lib.ListN.{length, length-append}
use lib.Seq.{take_at}
use Rattle.lists.specs.Logic.{on}
use Rattle.grammar.specs.Grammar.{ended, Fields, Lines, Tables, WellFormed}
use Rattle.turbo.specs.Split.{until, past}
use Rattle.turbo.proofs.GrammarLaws.{Free}
use Rattle.turbo_lines.specs.Lines.{lines_from, lines}
use Rattle.turbo_lines.specs.Ended.{without_return, ended_lines, held_bytes}
use Rattle.turbo_lines.proofs.GrammarLaws.{differ', fields_free, line_before}

-- ---- over parts

pub ended-append : (h a b : List ℕ) → ended_lines h (a ++ b) ≡ ended_lines h a ++ ended_lines (held_bytes h a) b
unfolding ended_lines held_bytes
ended-append h [] b = refl
ended-append h (x ∷ a) b = go (eqb x 10) (ended-append [] a b) (ended-append (h ++ x ∷ []) a b)
  where
    go : (t : Bool) → ended_lines [] (a ++ b) ≡ ended_lines [] a ++ ended_lines (held_bytes [] a) b
        → ended_lines (h ++ x ∷ []) (a ++ b) ≡ ended_lines (h ++ x ∷ []) a ++ ended_lines (held_bytes (h ++ x ∷ []) a) b
        → on t (without_return h ∷ ended_lines [] (a ++ b)) (ended_lines (h ++ x ∷ []) (a ++ b))
        ≡ on t (without_return h ∷ ended_lines [] a) (ended_lines (h ++ x ∷ []) a) ++ ended_lines (on t (held_bytes [] a) (held_bytes (h ++ x ∷ []) a)) b
    go true p q = ap (λ (ls : List (List ℕ)). without_return h ∷ ls) p
    go false p q = q

pub held-append : (h a b : List ℕ) → held_bytes h (a ++ b) ≡ held_bytes (held_bytes h a) b
unfolding held_bytes
held-append h [] b = refl
held-append h (x ∷ a) b = go (eqb x 10) (held-append [] a b) (held-append (h ++ x ∷ []) a b)
  where
    go : (t : Bool) → held_bytes [] (a ++ b) ≡ held_bytes (held_bytes [] a) b → held_bytes (h ++ x ∷ []) (a ++ b) ≡ held_bytes (held_bytes (h ++ x ∷ []) a) b
        → on t (held_bytes [] (a ++ b)) (held_bytes (h ++ x ∷ []) (a ++ b)) ≡ held_bytes (on t (held_bytes [] a) (held_bytes (h ++ x ∷ []) a)) b
    go true p q = p
    go false p q = q

-- ---- by the first LF

-- with one: the line that it ends, then those behind it
pub ended-first : (h d : List ℕ) → length (until 10 d) < length d → ended_lines h d ≡ without_return (h ++ until 10 d) ∷ ended_lines [] (past 10 d)
unfolding ended_lines until past
ended-first h [] m = absurd (omega arith)
ended-first h (b ∷ d) m = go (eqb b 10) m (ended-first (h ++ b ∷ []) d)
  where
    go : (t : Bool) → length (on t [] (b ∷ until 10 d)) < suc (length d)
        → (length (until 10 d) < length d → ended_lines (h ++ b ∷ []) d ≡ without_return ((h ++ b ∷ []) ++ until 10 d) ∷ ended_lines [] (past 10 d))
        → on t (without_return h ∷ ended_lines [] d) (ended_lines (h ++ b ∷ []) d) ≡ without_return (h ++ on t [] (b ∷ until 10 d)) ∷ ended_lines [] (on t d (past 10 d))
    go true n f = ap (λ (l : List ℕ). without_return l ∷ ended_lines [] d) (sym (append-nil h))
    go false n f = f (omega arith) ∙ ap (λ (l : List ℕ). without_return l ∷ ended_lines [] (past 10 d)) (append_assoc h (b ∷ []) (until 10 d))

pub held_first : (h d : List ℕ) → length (until 10 d) < length d → held_bytes h d ≡ held_bytes [] (past 10 d)
unfolding held_bytes until past
held_first h [] m = absurd (omega arith)
held_first h (b ∷ d) m = go (eqb b 10) m (held_first (h ++ b ∷ []) d)
  where
    go : (t : Bool) → length (on t [] (b ∷ until 10 d)) < suc (length d) → (length (until 10 d) < length d → held_bytes (h ++ b ∷ []) d ≡ held_bytes [] (past 10 d))
        → on t (held_bytes [] d) (held_bytes (h ++ b ∷ []) d) ≡ held_bytes [] (on t d (past 10 d))
    go true n f = refl
    go false n f = f (omega arith)

-- with none: no line ends, and all is held
pub ended-none : (h d : List ℕ) → length d ≤ length (until 10 d) → ended_lines h d ≡ []
unfolding ended_lines until
ended-none h [] m = refl
ended-none h (b ∷ d) m = go (eqb b 10) m (ended-none (h ++ b ∷ []) d)
  where
    go : (t : Bool) → suc (length d) ≤ length (on t [] (b ∷ until 10 d)) → (length d ≤ length (until 10 d) → ended_lines (h ++ b ∷ []) d ≡ [])
        → on t (without_return h ∷ ended_lines [] d) (ended_lines (h ++ b ∷ []) d) ≡ []
    go true n f = absurd (omega arith)
    go false n f = f (omega arith)

pub held_none : (h d : List ℕ) → length d ≤ length (until 10 d) → held_bytes h d ≡ h ++ d
unfolding held_bytes until
held_none h [] m = sym (append-nil h)
held_none h (b ∷ d) m = go (eqb b 10) m (held_none (h ++ b ∷ []) d)
  where
    go : (t : Bool) → suc (length d) ≤ length (on t [] (b ∷ until 10 d)) → (length d ≤ length (until 10 d) → held_bytes (h ++ b ∷ []) d ≡ (h ++ b ∷ []) ++ d)
        → on t (held_bytes [] d) (held_bytes (h ++ b ∷ []) d) ≡ h ++ b ∷ d
    go true n f = absurd (omega arith)
    go false n f = f (omega arith) ∙ append_assoc h (b ∷ []) d

-- ---- of a well-formed dossier

pub without-return : (l : List ℕ) → without_return (l ++ 13 ∷ []) ≡ l
without-return l =
    let e : length (l ++ 13 ∷ []) - 1 ≡ length l = let n = length-append l (13 ∷ []) in omega arith in
    rw e (take_at l (13 ∷ []) (length l) refl)

-- a line without LF, before its line end
pub line-ended : (h : List ℕ) {f : List ℕ} (r : List ℕ) → Free 10 f → ended_lines h (ended f r) ≡ (h ++ f) ∷ ended_lines [] r
unfolding ended_lines
line-ended h r Free.none = ap (λ (l : List ℕ). l ∷ ended_lines [] r) (without-return h ∙ sym (append-nil h))
line-ended h r (Free.byte {b} {l} n g) = rw (ne_eqb b 10 n) (line-ended (h ++ b ∷ []) r g ∙ ap (λ (l : List ℕ). l ∷ ended_lines [] r) (append_assoc h (b ∷ []) l))

line-left : (h : List ℕ) {f : List ℕ} (r : List ℕ) → Free 10 f → held_bytes h (ended f r) ≡ held_bytes [] r
unfolding held_bytes
line-left h r Free.none = refl
line-left h r (Free.byte {b} {l} n g) = rw (ne_eqb b 10 n) (line-left (h ++ b ∷ []) r g)

-- bytes whose ended lines are their lines, with nothing held
abbrev Whole : List ℕ → Type 0
Whole d = (ended_lines [] d ≡ lines d) × (held_bytes [] d ≡ [])

-- one line more
one_more : {f : List ℕ} (r : List ℕ) → Free 10 f → Free 13 f → Whole r → Whole (ended f r)
one_more {f} r a b (e, g) = (line-ended [] r a ∙ ap (λ (ls : List (List ℕ)). f ∷ ls) e ∙ sym (line_before r b), line-left [] r a ∙ g)

marked : (x m : ℕ) {f : List ℕ} → x < 32 → 32 ≤ m → Free x f → Free x (92 ∷ m ∷ f)
marked x m h k g = Free.byte (differ' 92 x (omega arith)) (Free.byte (differ' m x (omega arith)) g)

-- and one behind a mark
marked_more : (m : ℕ) {f : List ℕ} (r : List ℕ) → 32 ≤ m → Fields f → Whole r → Whole (92 ∷ m ∷ ended f r)
marked_more m r h g e = one_more r (marked 10 m (omega arith) h (fields_free 10 (omega arith) g)) (marked 13 m (omega arith) h (fields_free 13 (omega arith) g)) e

whole-lines : {l : List ℕ} → Lines l → Whole l
unfolding ended_lines held_bytes lines_from
whole-lines Lines.end = (refl, refl)
whole-lines (Lines.line {f} {r} g rest) = one_more r (fields_free 10 (omega arith) g) (fields_free 13 (omega arith) g) (whole-lines rest)
whole-lines (Lines.table {t} {l} {r} g h rest) = marked_more 84 (92 ∷ 76 ∷ ended l r) (omega arith) g (marked_more 76 r (omega arith) h (whole-lines rest))

whole-tables : {l : List ℕ} → Tables l → Whole l
unfolding ended_lines held_bytes lines_from
whole-tables Tables.none = (refl, refl)
whole-tables (Tables.table {t} {l} {r} g h rest) = marked_more 84 (92 ∷ 76 ∷ ended l r) (omega arith) g (marked_more 76 r (omega arith) h (whole-lines rest))

whole : (d : List ℕ) → WellFormed d → Whole d
whole d (WellFormed.dossier {g} {t} f r) = marked_more 71 t (omega arith) f (whole-tables r)

-- the lines that LF ends are the lines
pub ended-lines : (d : List ℕ) → WellFormed d → ended_lines [] d ≡ lines d
ended-lines d w = (whole d w).0

pub held-nothing : (d : List ℕ) → WellFormed d → held_bytes [] d ≡ []
held-nothing d w = (whole d w).1
