use Prim.Native.Nat.{ℕ, suc, ◌≤◌}
use native.Mathlib.Omega.{arith}
use mathlib.Core.Path.{◌≡◌, refl, sym, ap}
use mathlib.Core.Bool.{Bool, true, false, not}
use mathlib.Core.List.{List, [], ◌∷◌}
use borrow.Author.Tests.{eq-eqb, eqb-true}
use lib.Dec.{eqb}
use lib.ListN.{length}
use Rattle.std.specs.Prelude.{Ok, Err}
use Rattle.lists.specs.Logic.{on}
use Rattle.lists.specs.Each.{Each}
use Rattle.turbo_lines.specs.declared.Mark.{Mark}
use Rattle.turbo_lines.specs.declared.Mark.TheVariants as Marks
use Rattle.turbo_lines.specs.Lines.{mark_of}
use Rattle.columns.specs.declared.Table.{Table}
use Rattle.columns.specs.Tables.{row_of}
use Rattle.reader.specs.declared.Fault.TheVariants.{Form, Field, Owner}
use Rattle.reader.specs.Items.{Item, head, row, Place, outside, awaiting, under, place_after, seen, in_front, items}
use Rattle.reader.specs.Rules.{Reading, form_bad, is_wrong, wrong_at, owner_bad, line_number, first_line, first_column, data_rows, answer_to}
use Rattle.reader.specs.Staging.{rows_up_to}
use Rattle.reader.specs.inner.Settled.{answered_by}

-- Where no line is at fault, the rows before the first fault are the rows of all data lines. Assumes nothing.

-- lines are numbered from 1
abbrev Numbered : List Item → Type 0
Numbered xs = Each (λ (x : Item). 1 ≤ line_number x) xs

seen-numbered : (m : Mark) (n : ℕ) (l : List ℕ) (p : Place) (xs : List Item) → 1 ≤ n → Numbered xs → Numbered (in_front (seen m n l p) xs)
seen-numbered Marks.Group n l p xs h e = e
seen-numbered Marks.Table n l p xs h e = e
seen-numbered Marks.Labels n l awaiting xs h e = (h, e)
seen-numbered Marks.Labels n l outside xs h e = e
seen-numbered Marks.Labels n l (under ls) xs h e = e
seen-numbered Marks.Data n l outside xs h e = e
seen-numbered Marks.Data n l awaiting xs h e = e
seen-numbered Marks.Data n l (under ls) xs h e = (h, e)

pub items-numbered : (t : Table) (p : Place) (n : ℕ) (ls : List (List ℕ)) → 1 ≤ n → Numbered (items t p n ls)
unfolding items
items-numbered t p n [] h = tt
items-numbered t p n (l ∷ ls) h = seen-numbered (mark_of l) n l p _ h (items-numbered t (place_after t (mark_of l) l p) (suc n) ls (omega arith))

-- no first line at fault exactly where none is at fault
pub none_first : (bad : Item → Bool) (xs : List Item) → Numbered xs → first_line bad xs ≡ 0 → Each (λ (x : Item). bad x ≡ false) xs
unfolding first_line
none_first bad [] e h = tt
none_first bad (x ∷ xs) e h = go (bad x) refl h (none_first bad xs e.1)
  where
    go : (b : Bool) → bad x ≡ b → on b (line_number x) (first_line bad xs) ≡ 0 → (first_line bad xs ≡ 0 → Each (λ (y : Item). bad y ≡ false) xs) → Each (λ (y : Item). bad y ≡ false) (x ∷ xs)
    go true q k ih = let l = e.0 in absurd (omega arith)
    go false q k ih = (q, ih k)

pub first-none : (bad : Item → Bool) (xs : List Item) → Each (λ (x : Item). bad x ≡ false) xs → first_line bad xs ≡ 0
unfolding first_line
first-none bad [] e = refl
first-none bad (x ∷ xs) e = rw e.0 (first-none bad xs e.1)

-- a field is wrong exactly where its column is not 0
pub not-wrong : (t : Table) (xs : List Item) → Each (λ (x : Item). is_wrong t x ≡ false) xs → Each (λ (x : Item). wrong_at t x ≡ 0) xs
not-wrong t [] e = tt
not-wrong t (x ∷ xs) e = (go (eqb (wrong_at t x) 0) refl e.0, not-wrong t xs e.1)
  where
    go : (b : Bool) → eqb (wrong_at t x) 0 ≡ b → not b ≡ false → wrong_at t x ≡ 0
    go true q k = eqb-true _ _ q
    go false q k = absurd (let z : ◌≡◌ {A = ℕ} 0 1 = cc in omega arith)

pub right-not : (t : Table) (xs : List Item) → Each (λ (x : Item). wrong_at t x ≡ 0) xs → Each (λ (x : Item). is_wrong t x ≡ false) xs
right-not t [] e = tt
right-not t (x ∷ xs) e = (rw (eq-eqb (wrong_at t x) 0 e.0), right-not t xs e.1)

-- ---- all rows

pub all-rows : (t : Table) (register : List ℕ) (sender : ℕ) (xs : List Item)
    → Each (λ (x : Item). form_bad t x ≡ false) xs → Each (λ (x : Item). wrong_at t x ≡ 0) xs → Each (λ (x : Item). owner_bad t register sender x ≡ false) xs
    → rows_up_to t register sender xs ≡ data_rows t xs
unfolding rows_up_to data_rows
all-rows t register sender [] f w o = refl
all-rows t register sender (head n ls ∷ xs) f w o = rw f.0 (all-rows t register sender xs f.1 w.1 o.1)
all-rows t register sender (row n ls l ∷ xs) f w o =
    rw (f.0, w.0, o.0) (ap (λ (rs : List (List ℕ)). row_of t ls l ∷ rs) (all-rows t register sender xs f.1 w.1 o.1))

-- an answer by the tests that are made: that there is no such line
abbrev tested : Bool → Bool → Bool → ℕ → ℕ → ℕ → ℕ → ℕ → Reading
tested a b c form line column owner rows = on (not a) (Err (Form form)) (on (not b) (Err (Field line column)) (on (not c) (Err (Owner owner)) (Ok rows)))

-- so an answer may count the rows before the first fault: where there is one, the count is not asked
pub answer-counted : (t : Table) (register : List ℕ) (sender : ℕ) (xs : List Item) → Numbered xs
    → answer_to t register sender xs
    ≡ answered_by (first_line (form_bad t) xs) (first_line (is_wrong t) xs) (first_column t xs) (first_line (owner_bad t register sender) xs) (length (rows_up_to t register sender xs))
unfolding answer_to
answer-counted t register sender xs m =
    go (eqb (first_line (form_bad t) xs) 0) (eqb (first_line (is_wrong t) xs) 0) (eqb (first_line (owner_bad t register sender) xs) 0) refl refl refl
  where
    go : (a b c : Bool) → eqb (first_line (form_bad t) xs) 0 ≡ a → eqb (first_line (is_wrong t) xs) 0 ≡ b → eqb (first_line (owner_bad t register sender) xs) 0 ≡ c
        → tested a b c (first_line (form_bad t) xs) (first_line (is_wrong t) xs) (first_column t xs) (first_line (owner_bad t register sender) xs) (length (data_rows t xs))
        ≡ tested a b c (first_line (form_bad t) xs) (first_line (is_wrong t) xs) (first_column t xs) (first_line (owner_bad t register sender) xs) (length (rows_up_to t register sender xs))
    go true true true p q r =
        let f = none_first (form_bad t) xs m (eqb-true _ _ p) in
        let w = not-wrong t xs (none_first (is_wrong t) xs m (eqb-true _ _ q)) in
        let o = none_first (owner_bad t register sender) xs m (eqb-true _ _ r) in
        ap (λ (rs : List (List ℕ)). Ok (length rs)) (sym (all-rows t register sender xs f w o))
    go true true false p q r = refl
    go true false c p q r = refl
    go false b c p q r = refl
