use Prim.Native.Nat.{ℕ, suc, ◌+◌, ◌-◌, ◌≤◌}
use native.Mathlib.Omega.{arith}
use mathlib.Core.Path.{◌≡◌, refl, sym, ap, ◌∙◌}
use mathlib.Core.Bool.{Bool, true, false}
use mathlib.Core.List.{List, [], ◌∷◌, ◌++◌}
use borrow.Author.Tests.{eqb-true}
use lib.Dec.{eqb}
use lib.ListN.{length, take, length-append}
use lib.Seq.{take-nil}
use Rattle.std.specs.Prelude.{Option, Some, None, Result, Ok, Err, ⊤}
use Rattle.lists.specs.Logic.{on}
use Rattle.syntax.specs.declared.Kind.TheVariants as Kinds
use Rattle.syntax.specs.declared.State as Machine
use Rattle.syntax.specs.declared.State.TheVariants as States
use Rattle.syntax.specs.Machine.{field_step, escape_step, first_escape_step, null_step, return_step, start_step, mark_step, step, follow, accepting, run}
use Rattle.turbo_lines.specs.Lines.{is_long, short_front}
use Rattle.columns.specs.declared.Form.{Form}
use Rattle.columns.specs.declared.Table.TheVariants.{Message}
use Rattle.reader.specs.Items.{outside, items}
use Rattle.reader.specs.Rules.{faults, fault_place}
use Rattle.reader.specs.Staging.{rows_up_to}
use Rattle.reader.proofs.BoundLaws.{weights, message-long, rows-weigh}
use Rattle.turbo_lines.specs.Ended.{ended_lines}
use Rattle.feeds_whole.proofs.ByteLaws.{without-length, valid}

-- How many rows the parts of a dossier can give: a row's line has 27 bytes with its line end. Assumes nothing.

-- ---- the lines of bytes

front-weigh : (ls : List (List ℕ)) → weights (short_front ls) ≤ weights ls
unfolding short_front
front-weigh [] = omega arith
front-weigh (l ∷ ls) = go (is_long l) (front-weigh ls)
  where
    go : (b : Bool) → weights (short_front ls) ≤ weights ls → weights (on b [] (l ∷ short_front ls)) ≤ length l + 2 + weights ls
    go true h = omega arith
    go false h = omega arith

-- the machine takes an LF only behind a CR
abbrev is_ret : Machine.State → Bool
is_ret (States.Open k) = false
is_ret (States.Mark k) = false
is_ret (States.First k) = false
is_ret (States.Inside k) = false
is_ret (States.FirstEsc k) = false
is_ret (States.InsideEsc k) = false
is_ret (States.Null k) = false
is_ret (States.Ret k) = true

abbrev leads_to_ret : Option Machine.State → Bool
leads_to_ret (Some t) = is_ret t
leads_to_ret None = false

abbrev goes_on : Option Machine.State → Bool
goes_on (Some t) = true
goes_on None = false

lf-only : (s : Machine.State) → (goes_on (step s 10) ≡ true → is_ret s ≡ true) × (leads_to_ret (step s 10) ≡ false)
unfolding step start_step mark_step return_step null_step first_escape_step escape_step field_step
lf-only (States.Open Kinds.Nothing) = (λ e. e, refl)
lf-only (States.Open Kinds.Group) = (λ e. e, refl)
lf-only (States.Open Kinds.Table) = (λ e. e, refl)
lf-only (States.Open Kinds.Rows) = (λ e. e, refl)
lf-only (States.Mark Kinds.Nothing) = (λ e. e, refl)
lf-only (States.Mark Kinds.Group) = (λ e. e, refl)
lf-only (States.Mark Kinds.Table) = (λ e. e, refl)
lf-only (States.Mark Kinds.Rows) = (λ e. e, refl)
lf-only (States.First k) = (λ e. e, refl)
lf-only (States.Inside k) = (λ e. e, refl)
lf-only (States.FirstEsc k) = (λ e. e, refl)
lf-only (States.InsideEsc k) = (λ e. e, refl)
lf-only (States.Null k) = (λ e. e, refl)
lf-only (States.Ret k) = (λ e. refl, refl)

none-weigh : (h : List ℕ) (n : ℕ) → weights (ended_lines h []) ≤ length h + suc n
unfolding ended_lines
none-weigh h n = omega arith

lf-weigh : (h : List ℕ) (b : ℕ) (v : List ℕ) (n : ℕ) → eqb b 10 ≡ true → 1 ≤ length h → weights (ended_lines [] v) ≤ n → weights (ended_lines h (b ∷ v)) ≤ length h + suc n
unfolding ended_lines
lf-weigh h b v n e some few = rw e (omega (arith, without-length h, some, few))

on_line : (h : List ℕ) (b : ℕ) (v : List ℕ) (n : ℕ) → eqb b 10 ≡ false → weights (ended_lines (h ++ b ∷ []) v) ≤ length (h ++ b ∷ []) + n → weights (ended_lines h (b ∷ v)) ≤ length h + suc n
unfolding ended_lines
on_line h b v n e few = rw e (omega (arith, length-append h (b ∷ []), few))

ended-weigh : (w : List ℕ) (s : Machine.State) (h : List ℕ) → (is_ret s ≡ true → 1 ≤ length h) → weights (ended_lines h (valid s w)) ≤ length h + length w
unfolding valid ended_lines
ended-weigh [] s h r = omega arith
ended-weigh (b ∷ w) s h r = go (step s b) refl (eqb b 10) refl (λ t k. ended-weigh w t k)
  where
    go : (n : Option Machine.State) → step s b ≡ n → (l : Bool) → eqb b 10 ≡ l
        → ((t : Machine.State) (k : List ℕ) → (is_ret t ≡ true → 1 ≤ length k) → weights (ended_lines k (valid t w)) ≤ length k + length w)
        → weights (ended_lines h (follow n (λ t. b ∷ valid t w) [])) ≤ length h + suc (length w)
    go None e l q ih = none-weigh h (length w)
    go (Some t) e true q ih =
        let z : step s 10 ≡ Some t = ap (step s) (sym (eqb-true b 10 q)) ∙ e in
        let k = lf-only s in
        let some : 1 ≤ length h = r (k.0 (ap goes_on z)) in
        let m : is_ret t ≡ false = sym (ap leads_to_ret z) ∙ k.1 in
        let few = ih t [] (λ y. absurd (let f : ◌≡◌ {A = ℕ} 0 1 = cc in omega arith)) in
        lf-weigh h b (valid t w) (length w) q some (omega (arith, few))
    go (Some t) e false q ih = on_line h b (valid t w) (length w) q (ih t (h ++ b ∷ []) (λ y. omega (arith, length-append h (b ∷ []))))

-- the rows of lines that the first bytes of a dossier end
pub rows_few : (f : Form) (register : List ℕ) (sender : ℕ) (w : List ℕ) → length w ≤ 65536
    → length (rows_up_to (Message f) register sender (items (Message f) outside 1 (short_front (ended_lines [] (valid (States.Open Kinds.Nothing) w))))) ≤ 2427
rows_few f register sender w h =
    let ls = ended_lines [] (valid (States.Open Kinds.Nothing) w) in
    let a = rows-weigh (Message f) 27 (message-long f) register sender outside 1 (short_front ls) in
    let b = front-weigh ls in
    let c = ended-weigh w (States.Open Kinds.Nothing) [] (λ e. absurd (let f : ◌≡◌ {A = ℕ} 0 1 = cc in omega arith)) in
    omega (arith, a, b, c, h)

-- ---- the front that the machine takes, by its verdict

run-behind : (w : List ℕ) (s : Machine.State) (i j : ℕ) → run s w i ≡ Err j → i ≤ j
unfolding run
run-behind [] s i j = go (accepting s)
  where
    go : (b : Bool) → on {A = Result ⊤ ℕ} b (Ok tt) (Err i) ≡ Err j → i ≤ j
    go true e = absurd (let f : ◌≡◌ {A = ℕ} 0 1 = cc in omega arith)
    go false e = let f : i ≡ j = cc in omega arith
run-behind (b ∷ w) s i j = go (step s b) (λ t. run-behind w t (i + 1) j)
  where
    go : (n : Option Machine.State) → ((t : Machine.State) → run t w (i + 1) ≡ Err j → i + 1 ≤ j) → follow n (λ t. run t w (i + 1)) (Err i) ≡ Err j → i ≤ j
    go (Some t) ih e = let k = ih t e in omega arith
    go None ih e = let f : i ≡ j = cc in omega arith

-- the bytes before the place of a fault
abbrev front : Result ⊤ ℕ → ℕ → List ℕ → List ℕ
front v i w = on (faults v) (take (fault_place v - i) w) w

front-more : (v : Result ⊤ ℕ) (i b : ℕ) (w : List ℕ) → ((j : ℕ) → v ≡ Err j → i + 1 ≤ j) → b ∷ front v (i + 1) w ≡ front v i (b ∷ w)
front-more (Ok u) i b w h = refl
front-more (Err j) i b w h =
    let k = h j refl in
    let e : j - i ≡ suc (j - (i + 1)) = omega arith in
    ap (λ (n : ℕ). take n (b ∷ w)) (sym e)

pub valid-front : (w : List ℕ) (s : Machine.State) (i : ℕ) → valid s w ≡ front (run s w i) i w
unfolding valid run
valid-front [] s i = go (run s [] i)
  where
    go : (v : Result ⊤ ℕ) → [] ≡ front v i []
    go (Ok u) = refl
    go (Err j) = sym (take-nil (j - i))
valid-front (b ∷ w) s i = go (step s b) (λ t. valid-front w t (i + 1))
  where
    go : (n : Option Machine.State) → ((t : Machine.State) → valid t w ≡ front (run t w (i + 1)) (i + 1) w)
        → follow n (λ t. b ∷ valid t w) [] ≡ front (follow n (λ t. run t w (i + 1)) (Err i)) i (b ∷ w)
    go (Some t) ih = ap (λ (l : List ℕ). b ∷ l) (ih t) ∙ front-more (run t w (i + 1)) i b w (λ j e. run-behind w t (i + 1) j e)
    go None ih = let e : 0 ≡ i - i = omega arith in ap (λ (n : ℕ). take n (b ∷ w)) e
