use Prim.Native.Nat.{ℕ, ◌+◌}
use native.Mathlib.Omega.{arith}
use mathlib.Core.Path.{◌≡◌, refl}
use mathlib.Core.Bool.{Bool, true, false}
use mathlib.Core.Logic.{◌⊎◌, inl, inr}
use mathlib.Core.List.{List, [], ◌∷◌, ◌++◌, append_assoc}
use borrow.Author.Tests.{eqb-true, eqb-false, ltb-false, eq-eqb, ne_eqb, le-ltb}
use Rattle.lists.specs.Logic.{on}
use lib.Dec.{eqb, ltb}
use Rattle.std.specs.Prelude.{Option, Some, None, Result, Ok, Err, ⊤}
use Rattle.syntax.specs.declared.Kind.{Kind}
use Rattle.syntax.specs.declared.Kind.TheVariants.{Nothing, Group, Table, Rows}
use Rattle.syntax.specs.declared.State.{State}
use Rattle.syntax.specs.declared.State.TheVariants.{Open, Mark, First, Inside, FirstEsc, InsideEsc, Null, Ret}
use Rattle.syntax.specs.Machine.{follow, field_step, escape_step, first_escape_step, null_step, return_step, start_step, mark_step, step, accepting, may_end, run, fault}
use Rattle.grammar.specs.Grammar.{ended, headed, Plain, Esc, Text, Field, Fields, Tables, Lines, WellFormed}

-- The machine and the grammar say the same: `fine` and `formed`. And a fault lies at the first byte that no well-formed dossier could have: `dead`, `viable`.
-- Assumes nothing.

-- the bytes l are read to a good end from s, at whatever offset
abbrev Acc : State → List ℕ → Type 0
Acc s l = (i : ℕ) → run s l i ≡ Ok tt

acc-cons : (s t : State) (b : ℕ) (l : List ℕ) → step s b ≡ Some t → Acc t l → Acc s (b ∷ l)
unfolding run
acc-cons s t b l e h i = rw e (h (i + 1))

plain_step : (e : State) (k : Kind) (b : ℕ) → Plain b → field_step e k b ≡ Some (Inside k)
unfolding field_step
plain_step e k b p = simp (ne_eqb _ _ p.no_slash, ne_eqb _ _ p.no-bar, ne_eqb b 13 (λ q. let h = p.above in omega arith), le-ltb b 32 p.above)

esc-step : (k : Kind) (b : ℕ) → Esc b → escape_step k b ≡ Some (Inside k)
unfolding escape_step
esc-step k b Esc.slash = refl
esc-step k b Esc.lf = refl
esc-step k b Esc.bar = refl
esc-step k b Esc.cr = refl

first-esc-step : (k : Kind) (b : ℕ) → Esc b → first_escape_step k b ≡ Some (Inside k)
unfolding escape_step first_escape_step
first-esc-step k b Esc.slash = refl
first-esc-step k b Esc.lf = refl
first-esc-step k b Esc.bar = refl
first-esc-step k b Esc.cr = refl

mark-esc-step : (b : ℕ) → Esc b → mark_step Rows b ≡ Some (Inside Rows)
unfolding escape_step first_escape_step mark_step
mark-esc-step b Esc.slash = refl
mark-esc-step b Esc.lf = refl
mark-esc-step b Esc.bar = refl
mark-esc-step b Esc.cr = refl

text-acc : {x : List ℕ} → Text x → (k : Kind) (l : List ℕ) → Acc (Inside k) l → Acc (Inside k) (x ++ l)
unfolding step field_step
text-acc Text.empty k l h = h
text-acc (Text.plain {b} {l = x} p t) k l h = acc-cons _ _ b (x ++ l) (plain_step _ k b p) (text-acc t k l h)
text-acc (Text.esc {e} {l = x} p t) k l h = acc-cons _ _ 92 (e ∷ x ++ l) refl (acc-cons _ _ e (x ++ l) (esc-step k e p) (text-acc t k l h))

-- l goes on well after any field of a line of kind k
record Stop (k : Kind) (l : List ℕ) : Type 0 where
  first : Acc (First k) l
  inside : Acc (Inside k) l
  null : Acc (Null k) l

field-acc : {f : List ℕ} → Field f → (k : Kind) (l : List ℕ) → Stop k l → Acc (First k) (f ++ l)
unfolding step field_step first_escape_step
field-acc (Field.text Text.empty) k l h = h.first
field-acc (Field.text (Text.plain {b} {l = x} p t)) k l h = acc-cons _ _ b (x ++ l) (plain_step _ k b p) (text-acc t k l h.inside)
field-acc (Field.text (Text.esc {e} {l = x} p t)) k l h = acc-cons _ _ 92 (e ∷ x ++ l) refl (acc-cons _ _ e (x ++ l) (first-esc-step k e p) (text-acc t k l h.inside))
field-acc Field.null k l h = acc-cons _ _ 92 (48 ∷ l) refl (acc-cons _ _ 48 l refl h.null)

-- the same at the start of a data line
open-acc : {f : List ℕ} → Field f → (l : List ℕ) → Stop Rows l → Acc (Open Rows) l → Acc (Open Rows) (f ++ l)
unfolding step field_step start_step mark_step first_escape_step
open-acc (Field.text Text.empty) l h o = o
open-acc (Field.text (Text.plain {b} {l = x} p t)) l h o = acc-cons _ _ b (x ++ l) (plain_step _ Rows b p) (text-acc t Rows l h.inside)
open-acc (Field.text (Text.esc {e} {l = x} p t)) l h o = acc-cons _ _ 92 (e ∷ x ++ l) refl (acc-cons _ _ e (x ++ l) (mark-esc-step e p) (text-acc t Rows l h.inside))
open-acc Field.null l h o = acc-cons _ _ 92 (48 ∷ l) refl (acc-cons _ _ 48 l refl h.null)

bar-stop : (k : Kind) (l : List ℕ) → Acc (First k) l → Stop k (124 ∷ l)
unfolding step field_step null_step
bar-stop k l h = record { first = acc-cons _ _ 124 l refl h; inside = acc-cons _ _ 124 l refl h; null = acc-cons _ _ 124 l refl h }

end-stop : (k : Kind) (l : List ℕ) → Acc (Open k) l → Stop k (13 ∷ 10 ∷ l)
unfolding step field_step null_step return_step
end-stop k l h =
    let r : Acc (Ret k) (10 ∷ l) = acc-cons _ _ 10 l refl h in
    record { first = acc-cons _ _ 13 (10 ∷ l) refl r; inside = acc-cons _ _ 13 (10 ∷ l) refl r; null = acc-cons _ _ 13 (10 ∷ l) refl r }

fields-acc : {f : List ℕ} → Fields f → (k : Kind) (l : List ℕ) → Stop k l → Acc (First k) (f ++ l)
fields-acc (Fields.one f) k l h = field-acc f k l h
fields-acc (Fields.more {f = a} {l = m} f g) k l h = rw (append_assoc a (124 ∷ m) l) (field-acc f k (124 ∷ m ++ l) (bar-stop k (m ++ l) (fields-acc g k l h)))

line-acc : {f : List ℕ} → Fields f → (k : Kind) (l : List ℕ) → Acc (Open k) l → Acc (First k) (ended f l)
line-acc f k l h = fields-acc f k (13 ∷ 10 ∷ l) (end-stop k l h)

data-acc : {f : List ℕ} → Fields f → (l : List ℕ) → Acc (Open Rows) l → Acc (Open Rows) (ended f l)
unfolding step start_step field_step return_step
data-acc (Fields.one f) l h = open-acc f (13 ∷ 10 ∷ l) (end-stop Rows l h) (acc-cons _ _ 13 (10 ∷ l) refl (acc-cons _ _ 10 l refl h))
data-acc (Fields.more {f = a} {l = m} f g) l h =
    rw (append_assoc a (124 ∷ m) (13 ∷ 10 ∷ l))
    (open-acc f (124 ∷ m ++ 13 ∷ 10 ∷ l) (bar-stop Rows (m ++ 13 ∷ 10 ∷ l) (line-acc g Rows l h)) (acc-cons _ _ 124 (m ++ 13 ∷ 10 ∷ l) refl (line-acc g Rows l h)))

-- the `\T` and `\L` lines and what follows, from the kind of line before
table-acc : (k : Kind) {t l : List ℕ} → step (Open k) 92 ≡ Some (Mark k) → step (Mark k) 84 ≡ Some (First Table) → Fields t → Fields l → (r : List ℕ) → Acc (Open Rows) r → Acc (Open k) (headed t l r)
unfolding step start_step mark_step
table-acc k p q t l r h =
    acc-cons _ _ 92 _ p
    (acc-cons _ _ 84 _ q
    (line-acc t Table _ (acc-cons _ _ 92 _ refl (acc-cons _ _ 76 _ refl (line-acc l Rows r h)))))

lines-acc : {l : List ℕ} → Lines l → Acc (Open Rows) l
unfolding step start_step mark_step field_step run accepting
lines-acc Lines.end = λ i. refl
lines-acc (Lines.line {r} f d) = data-acc f r (lines-acc d)
lines-acc (Lines.table {r} t l d) = table-acc Rows refl refl t l r (lines-acc d)

tables-acc : {l : List ℕ} → Tables l → Acc (Open Group) l
unfolding step start_step mark_step run accepting
tables-acc Tables.none = λ i. refl
tables-acc (Tables.table {r} t l d) = table-acc Group refl refl t l r (lines-acc d)

-- what the grammar has, the machine takes
pub fine : {d : List ℕ} → WellFormed d → fault d ≡ Ok tt
unfolding fault step start_step mark_step
fine (WellFormed.dossier {t} g ts) = acc-cons _ _ 92 _ refl (acc-cons _ _ 71 _ refl (line-acc g Group t (tables-acc ts))) 0

-- The other way. What may be read from each state, in the grammar's terms.

-- what follows a line of kind k
abbrev After : Kind → List ℕ → Type 0
After Nothing l = WellFormed l
After Group l = Tables l
After Table l = (f : List ℕ) × (r : List ℕ) × Fields f × Lines r × (l ≡ 92 ∷ 76 ∷ ended f r)
After Rows l = Lines l

-- a line of kind k from its first field on, and what follows
abbrev Line : Kind → List ℕ → Type 0
Line k l = (f : List ℕ) × (r : List ℕ) × Fields f × After k r × (l ≡ ended f r)

abbrev Lang : State → List ℕ → Type 0
Lang (Open k) l = After k l
Lang (Mark k) l = After k (92 ∷ l)
Lang (First k) l = Line k l
Lang (Inside k) l = (x : List ℕ) → Text x → Line k (x ++ l)
Lang (FirstEsc k) l = Line k (92 ∷ l)
Lang (InsideEsc k) l = (x : List ℕ) → Text x → Line k (x ++ 92 ∷ l)
Lang (Null k) l = Line k (92 ∷ 48 ∷ l)
Lang (Ret k) l = (r : List ℕ) × After k r × (l ≡ 10 ∷ r)

text-append : {x y : List ℕ} → Text x → Text y → Text (x ++ y)
text-append Text.empty t = t
text-append (Text.plain p s) t = Text.plain p (text-append s t)
text-append (Text.esc p s) t = Text.esc p (text-append s t)

-- a field, then a bar and a line, or CR LF
line-bar : (k : Kind) {x : List ℕ} (l : List ℕ) → Field x → Line k l → Line k (x ++ 124 ∷ l)
line-bar k {x} l f (g, r, fs, a, e) = (x ++ 124 ∷ g, r, Fields.more f fs, a, rw (e, append_assoc x (124 ∷ g) (13 ∷ 10 ∷ r)) refl)

line-ret : (k : Kind) {x : List ℕ} (l : List ℕ) → Field x → Lang (Ret k) l → Line k (x ++ 13 ∷ l)
line-ret k {x} l f (r, a, e) = (x, r, Fields.one f, a, rw e refl)

-- a test passes, or fails
test : (b n : ℕ) → (b ≡ n) ⊎ (eqb b n ≡ false)
test b n = go (eqb b n) refl
  where
    go : (t : Bool) → eqb b n ≡ t → (b ≡ n) ⊎ (eqb b n ≡ false)
    go true e = inl (eqb-true b n e)
    go false e = inr e

no-fault : {A : Type 0} (i : ℕ) → ◌≡◌ {A = Result ⊤ ℕ} (Err i) (Ok tt) → A
no-fault i e = let z : ◌≡◌ {A = ℕ} 0 1 = cc in absurd (omega arith)

-- what a byte of a field's text leads to
data Read (l : List ℕ) (e : State) (k : Kind) : ℕ → Type 0 where
  r-slash : Lang e l → Read l e k 92
  r-bar : Line k l → Read l e k 124
  r-ret : Lang (Ret k) l → Read l e k 13
  r-plain : {b : ℕ} → Plain b → Lang (Inside k) l → Read l e k b

from_first : (l : List ℕ) (k : Kind) (b : ℕ) → Read l (FirstEsc k) k b → Line k (b ∷ l)
from_first l k b (r-slash h) = h
from_first l k b (r-bar h) = line-bar k l (Field.text Text.empty) h
from_first l k b (r-ret h) = line-ret k l (Field.text Text.empty) h
from_first l k b (r-plain p h) = h (b ∷ []) (Text.plain p Text.empty)

from-inside : (l : List ℕ) (k : Kind) (b : ℕ) → Read l (InsideEsc k) k b → (x : List ℕ) → Text x → Line k (x ++ b ∷ l)
from-inside l k b (r-slash h) x t = h x t
from-inside l k b (r-bar h) x t = line-bar k l (Field.text t) h
from-inside l k b (r-ret h) x t = line-ret k l (Field.text t) h
from-inside l k b (r-plain p h) x t = rw (append_assoc x (b ∷ []) l) at (h (x ++ b ∷ []) (text-append t (Text.plain p Text.empty)))

lines_of : (l : List ℕ) → Line Rows l → Lines l
lines_of l (f, r, fs, a, e) = rw e (Lines.line fs a)

from-open : (l : List ℕ) (b : ℕ) → Read l (Mark Rows) Rows b → Lines (b ∷ l)
from-open l b (r-slash h) = h
from-open l b (r-bar h) = lines_of _ (line-bar Rows l (Field.text Text.empty) h)
from-open l b (r-ret h) = lines_of _ (line-ret Rows l (Field.text Text.empty) h)
from-open l b (r-plain p h) = lines_of _ (h (b ∷ []) (Text.plain p Text.empty))

-- the bytes l after b, read from where a step leads
abbrev Goes : List ℕ → ℕ → Option State → Type 0
Goes l i n = follow n (λ t. run t l (i + 1)) (Err i) ≡ Ok tt

module _ (l : List ℕ) (ih : (s : State) (i : ℕ) → run s l i ≡ Ok tt → Lang s l) where
  read : (e : State) (k : Kind) (b i : ℕ) → Goes l i (field_step e k b) → Read l e k b
  unfolding field_step
  read e k b i h = slash (test b 92)
    where
      plain-or : eqb b 92 ≡ false → eqb b 124 ≡ false → eqb b 13 ≡ false → (t : Bool) → ltb b 32 ≡ t → Read l e k b
      plain-or x y z true w = no-fault i (simp (x, y, z, w) at h)
      plain-or x y z false w = r-plain (record { above = ltb-false _ _ w; no_slash = eqb-false _ _ x; no-bar = eqb-false _ _ y }) (ih (Inside k) (i + 1) (simp (x, y, z, w) at h))

      ret-or : eqb b 92 ≡ false → eqb b 124 ≡ false → (b ≡ 13) ⊎ (eqb b 13 ≡ false) → Read l e k b
      ret-or x y (inl q) = rw q (r-ret (ih (Ret k) (i + 1) (rw q at h)))
      ret-or x y (inr z) = plain-or x y z (ltb b 32) refl

      bar-or : eqb b 92 ≡ false → (b ≡ 124) ⊎ (eqb b 124 ≡ false) → Read l e k b
      bar-or x (inl q) = rw q (r-bar (ih (First k) (i + 1) (rw q at h)))
      bar-or x (inr y) = ret-or x y (test b 13)

      slash : (b ≡ 92) ⊎ (eqb b 92 ≡ false) → Read l e k b
      slash (inl q) = rw q (r-slash (ih e (i + 1) (rw q at h)))
      slash (inr x) = bar-or x (test b 124)

  read-esc : (k : Kind) (b i : ℕ) → Goes l i (escape_step k b) → Esc b × Lang (Inside k) l
  unfolding escape_step
  read-esc k b i h = one_of (test b 105)
    where
      four : eqb b 105 ≡ false → eqb b 110 ≡ false → eqb b 112 ≡ false → (b ≡ 114) ⊎ (eqb b 114 ≡ false) → Esc b × Lang (Inside k) l
      four x y z (inl q) = (rw q Esc.cr, ih (Inside k) (i + 1) (rw q at h))
      four x y z (inr w) = no-fault i (simp (x, y, z, w) at h)

      three : eqb b 105 ≡ false → eqb b 110 ≡ false → (b ≡ 112) ⊎ (eqb b 112 ≡ false) → Esc b × Lang (Inside k) l
      three x y (inl q) = (rw q Esc.bar, ih (Inside k) (i + 1) (rw q at h))
      three x y (inr z) = four x y z (test b 114)

      two : eqb b 105 ≡ false → (b ≡ 110) ⊎ (eqb b 110 ≡ false) → Esc b × Lang (Inside k) l
      two x (inl q) = (rw q Esc.lf, ih (Inside k) (i + 1) (rw q at h))
      two x (inr y) = three x y (test b 112)

      one_of : (b ≡ 105) ⊎ (eqb b 105 ≡ false) → Esc b × Lang (Inside k) l
      one_of (inl q) = (rw q Esc.slash, ih (Inside k) (i + 1) (rw q at h))
      one_of (inr x) = two x (test b 110)

  read-first-esc : (k : Kind) (b i : ℕ) → Goes l i (first_escape_step k b) → Line k (92 ∷ b ∷ l)
  unfolding first_escape_step
  read-first-esc k b i h = go (test b 48)
    where
      go : (b ≡ 48) ⊎ (eqb b 48 ≡ false) → Line k (92 ∷ b ∷ l)
      go (inl q) = rw q (ih (Null k) (i + 1) (rw q at h))
      go (inr x) = let r : Esc b × Lang (Inside k) l = read-esc k b i (simp x at h) in r.1 (92 ∷ b ∷ []) (Text.esc r.0 Text.empty)

  -- one byte n is wanted
  only : (t : State) (b n i : ℕ) → Goes l i (on (eqb b n) (Some t) None) → (b ≡ n) × Lang t l
  only t b n i h = go (test b n)
    where
      go : (b ≡ n) ⊎ (eqb b n ≡ false) → (b ≡ n) × Lang t l
      go (inl q) = (q, ih t (i + 1) (simp (eq-eqb _ _ q) at h))
      go (inr x) = no-fault i (simp x at h)

  read-null : (k : Kind) (b i : ℕ) → Goes l i (null_step k b) → Line k (92 ∷ 48 ∷ b ∷ l)
  unfolding null_step
  read-null k b i h = go (test b 124)
    where
      go : (b ≡ 124) ⊎ (eqb b 124 ≡ false) → Line k (92 ∷ 48 ∷ b ∷ l)
      go (inl q) = rw q (line-bar k l Field.null (ih (First k) (i + 1) (rw q at h)))
      go (inr x) = let r : (b ≡ 13) × Lang (Ret k) l = only (Ret k) b 13 i (simp x at h) in rw r.0 (line-ret k l Field.null r.1)

  read-open : (k : Kind) (b i : ℕ) → Goes l i (start_step k b) → After k (b ∷ l)
  unfolding start_step
  read-open Nothing b i h = let r = only (Mark Nothing) b 92 i h in rw r.0 r.1
  read-open Group b i h = let r = only (Mark Group) b 92 i h in rw r.0 r.1
  read-open Table b i h = let r = only (Mark Table) b 92 i h in rw r.0 r.1
  read-open Rows b i h = from-open l b (read (Mark Rows) Rows b i h)

  headed-of : (P : List ℕ → Type 0) → ((t m r : List ℕ) → Fields t → Fields m → Lines r → P (headed t m r)) → Line Table l → P (92 ∷ 84 ∷ l)
  headed-of P p (t, r, ts, (m, s, ms, a, e'), e) = rw (e, e') (p t m s ts ms a)

  read-mark : (k : Kind) (b i : ℕ) → Goes l i (mark_step k b) → After k (92 ∷ b ∷ l)
  unfolding mark_step
  read-mark Nothing b i h = go (only (First Group) b 71 i h)
    where
      go : (b ≡ 71) × Line Group l → WellFormed (92 ∷ b ∷ l)
      go (q, (f, r, fs, a, e)) = rw (q, e) (WellFormed.dossier fs a)
  read-mark Group b i h = let r = only (First Table) b 84 i h in rw r.0 (headed-of Tables (λ t m s ts ms a. Tables.table ts ms a) r.1)
  read-mark Table b i h = go (only (First Rows) b 76 i h)
    where
      go : (b ≡ 76) × Line Rows l → After Table (92 ∷ b ∷ l)
      go (q, (f, r, fs, a, e)) = (f, r, fs, a, rw (q, e) refl)
  read-mark Rows b i h = go (test b 84)
    where
      go : (b ≡ 84) ⊎ (eqb b 84 ≡ false) → Lines (92 ∷ b ∷ l)
      go (inl q) = rw q (headed-of Lines (λ t m s ts ms a. Lines.table ts ms a) (ih (First Table) (i + 1) (rw q at h)))
      go (inr x) = lines_of _ (read-first-esc Rows b i (simp x at h))

  step-lang : (s : State) (b i : ℕ) → Goes l i (step s b) → Lang s (b ∷ l)
  unfolding step return_step
  step-lang (Open k) b i h = read-open k b i h
  step-lang (Mark k) b i h = read-mark k b i h
  step-lang (First k) b i h = from_first l k b (read (FirstEsc k) k b i h)
  step-lang (Inside k) b i h = from-inside l k b (read (InsideEsc k) k b i h)
  step-lang (FirstEsc k) b i h = read-first-esc k b i h
  step-lang (InsideEsc k) b i h = λ x t. let r : Esc b × Lang (Inside k) l = read-esc k b i h in rw (append_assoc x (92 ∷ b ∷ []) l) at (r.1 (x ++ 92 ∷ b ∷ []) (text-append t (Text.esc r.0 Text.empty)))
  step-lang (Null k) b i h = read-null k b i h
  step-lang (Ret k) b i h = let r = only (Open k) b 10 i h in (l, r.1, rw r.0 refl)

open-end : (k : Kind) (i : ℕ) → on {A = Result ⊤ ℕ} (may_end k) (Ok tt) (Err i) ≡ Ok tt → After k []
open-end Nothing i h = no-fault i h
open-end Group i h = Tables.none
open-end Table i h = no-fault i h
open-end Rows i h = Lines.end

lang-end : (s : State) (i : ℕ) → on {A = Result ⊤ ℕ} (accepting s) (Ok tt) (Err i) ≡ Ok tt → Lang s []
unfolding accepting
lang-end (Open k) i h = open-end k i h
lang-end (Mark k) i h = no-fault i h
lang-end (First k) i h = no-fault i h
lang-end (Inside k) i h = no-fault i h
lang-end (FirstEsc k) i h = no-fault i h
lang-end (InsideEsc k) i h = no-fault i h
lang-end (Null k) i h = no-fault i h
lang-end (Ret k) i h = no-fault i h

lang : (l : List ℕ) (s : State) (i : ℕ) → run s l i ≡ Ok tt → Lang s l
unfolding run
lang [] s i h = lang-end s i h
lang (b ∷ l) s i h = step-lang l (lang l) s b i h

-- what the machine takes, the grammar has
pub formed : (d : List ℕ) → fault d ≡ Ok tt → WellFormed d
unfolding fault
formed d h = lang d (Open Nothing) 0 h
