-- The log of the same deeds without one message: that message is missing, later ones have one number less, and all else stands as it stood. Assumes nothing.
use mathlib.Core.Path.{◌≡◌, refl, sym, ap, ap₂, ◌∙◌}
use mathlib.Core.Bool.{Bool, true, false}
use mathlib.Core.List.{List, [], ◌∷◌, ◌++◌, map, append-nil}
use mathlib.Core.Logic.{◌⊎◌, inl, inr}
use Prim.Native.Nat.{ℕ, suc, ◌-◌, ◌≤◌, ◌<◌}
use native.Mathlib.Omega.{arith}
use lib.Dec.{eqb, ltb}
use borrow.Author.Tests.{ltb-true, ltb-false, eqb-true, eqb-false, eq-eqb}
use Rattle.lists.specs.Logic.{on}
use Rattle.lists.proofs.LogicLaws.{tests-equal}
use Rattle.calls.specs.Leaves.{Day}
use Rattle.runs.specs.Runs.{Call, reply_to, after, Taken, undone, struck, Deed, deed_of, noted, and_then, log_after, deeds_after, log_standing, one_less, never}
use Rattle.runs.specs.Claims.{Gone}

-- ---- the log is what the deeds say

unfoldable log_from : List Deed → List Taken → List Taken
log_from [] log = log
log_from (d ∷ deeds) log = log_from deeds (noted d log)

one_more : (deeds : List Deed) (d : Deed) (log : List Taken) → log_from (deeds ++ d ∷ []) log ≡ noted d (log_from deeds log)
unfolding log_from
one_more [] d log = refl
one_more (a ∷ deeds) d log = one_more deeds d (noted a log)

none_from : [] ≡ log_from [] []
unfolding log_from
none_from = refl

then-noted : (deeds : List Deed) (d : Deed) → noted d (log_from deeds []) ≡ log_from (and_then deeds d) []
then-noted deeds (Deed.took n sender rows) = sym (one_more deeds (Deed.took n sender rows) [])
then-noted deeds (Deed.struck_out n) = sym (one_more deeds (Deed.struck_out n) [])
then-noted deeds (Deed.began plan) = none_from
then-noted deeds Deed.nothing = refl

log-of-deeds : (calls : List Call) (x : Day) (deeds : List Deed) → log_after calls x (log_from deeds []) ≡ log_from (deeds_after calls x deeds) []
unfolding log_after deeds_after
log-of-deeds [] x deeds = refl
log-of-deeds (call ∷ calls) x deeds =
    ap (log_after calls (after call x)) (then-noted deeds (deed_of call (reply_to call x)))
    ∙ log-of-deeds calls (after call x) (and_then deeds (deed_of call (reply_to call x)))

-- ---- a log without message n

abbrev fewer : ℕ → Taken → Taken
fewer n m = record { number = one_less n m.number; sender = m.sender; bodies = m.bodies; stands = m.stands }

unfoldable without : ℕ → List Taken → List Taken
without n [] = []
without n (m ∷ log) = on (eqb m.number n) (without n log) (fewer n m ∷ without n log)

without-append : (n : ℕ) (xs ys : List Taken) → without n (xs ++ ys) ≡ without n xs ++ without n ys
unfolding without
without-append n [] ys = refl
without-append n (m ∷ xs) ys = go (eqb m.number n) (without-append n xs ys)
  where
    go : (t : Bool) → without n (xs ++ ys) ≡ without n xs ++ without n ys
        → on t (without n (xs ++ ys)) (fewer n m ∷ without n (xs ++ ys)) ≡ on t (without n xs) (fewer n m ∷ without n xs) ++ without n ys
    go true rest = rest
    go false rest = ap (λ (l : List Taken). fewer n m ∷ l) rest

strict : (k n : ℕ) → k ≤ n → (k ≡ n → ⊥) → k < n
strict k n h a = go (ltb k n) refl
  where
    go : (t : Bool) → ltb k n ≡ t → k < n
    go true e = ltb-true k n e
    go false e = absurd (a (let g = ltb-false k n e in omega arith))

-- a number that is not n, with one less: below n it stays, above it falls by one
less-is : (n k : ℕ) → (k ≡ n → ⊥) → ((k < n) × (one_less n k ≡ k)) ⊎ ((n < k) × (suc (one_less n k) ≡ k))
less-is n k a = go (ltb n k) refl
  where
    go : (t : Bool) → ltb n k ≡ t → ((k < n) × (on t (k - 1) k ≡ k)) ⊎ ((n < k) × (suc (on t (k - 1) k) ≡ k))
    go true e = let h = ltb-true n k e in inr (h, omega arith)
    go false e = let h = ltb-false n k e in inl (strict k n h a, refl)

-- so two of them are equal exactly where they are with one less
one_number : (n j k : ℕ) → (j ≡ n → ⊥) → (k ≡ n → ⊥) → one_less n j ≡ one_less n k → j ≡ k
one_number n j k a b e = go (less-is n j a) (less-is n k b)
  where
    go : ((j < n) × (one_less n j ≡ j)) ⊎ ((n < j) × (suc (one_less n j) ≡ j)) → ((k < n) × (one_less n k ≡ k)) ⊎ ((n < k) × (suc (one_less n k) ≡ k)) → j ≡ k
    go (inl f) (inl g) = sym f.1 ∙ e ∙ g.1
    go (inr f) (inr g) = sym f.1 ∙ ap suc e ∙ g.1
    go (inl f) (inr g) = absurd (let u = f.0 in let v = f.1 in let p = g.0 in let q = g.1 in omega arith)
    go (inr f) (inl g) = absurd (let u = f.0 in let v = f.1 in let p = g.0 in let q = g.1 in omega arith)

same_test : (n j k : ℕ) → (j ≡ n → ⊥) → (k ≡ n → ⊥) → eqb (one_less n j) (one_less n k) ≡ eqb j k
same_test n j k a b =
    tests-equal (eqb (one_less n j) (one_less n k)) (eqb j k)
    (λ e. eq-eqb j k (one_number n j k a b (eqb-true (one_less n j) (one_less n k) e)))
    (λ e. eq-eqb (one_less n j) (one_less n k) (ap (one_less n) (eqb-true j k e)))

-- ---- a message struck out, among the others

struck-number : (k : ℕ) (m : Taken) → (struck k m).number ≡ m.number
struck-number k m = go (eqb m.number k)
  where
    go : (t : Bool) → (on t (undone m) m).number ≡ m.number
    go true = refl
    go false = refl

-- message n itself: nothing else changes
struck-itself : (n : ℕ) (log : List Taken) → without n (map (struck n) log) ≡ without n log
unfolding without
struck-itself n [] = refl
struck-itself n (m ∷ log) = go (struck-itself n log) (eqb m.number n) refl
  where
    go : without n (map (struck n) log) ≡ without n log → (t : Bool) → eqb m.number n ≡ t
        → on (eqb (on t (undone m) m).number n) (without n (map (struck n) log)) (fewer n (on t (undone m) m) ∷ without n (map (struck n) log))
        ≡ on t (without n log) (fewer n m ∷ without n log)
    go rest true e = rw e rest
    go rest false e = rw e (ap (λ (l : List Taken). fewer n m ∷ l) rest)

-- another, under its number there
struck-other : (n k : ℕ) (log : List Taken) → (k ≡ n → ⊥) → without n (map (struck k) log) ≡ map (struck (one_less n k)) (without n log)
unfolding without
struck-other n k [] h = refl
struck-other n k (m ∷ log) h = ap (λ (j : ℕ). on (eqb j n) (without n (map (struck k) log)) (fewer n (struck k m) ∷ without n (map (struck k) log))) (struck-number k m) ∙ go (struck-other n k log h) (eqb m.number n) refl
  where
    fewer-struck : (m.number ≡ n → ⊥) → fewer n (struck k m) ≡ struck (one_less n k) (fewer n m)
    fewer-struck a = each (eqb m.number k) ∙ ap (λ (t : Bool). on t (undone (fewer n m)) (fewer n m)) (sym (same_test n m.number k a h))
      where
        each : (t : Bool) → fewer n (on t (undone m) m) ≡ on t (undone (fewer n m)) (fewer n m)
        each true = refl
        each false = refl

    go : without n (map (struck k) log) ≡ map (struck (one_less n k)) (without n log) → (t : Bool) → eqb m.number n ≡ t
        → on t (without n (map (struck k) log)) (fewer n (struck k m) ∷ without n (map (struck k) log))
        ≡ map (struck (one_less n k)) (on t (without n log) (fewer n m ∷ without n log))
    go rest true e = rest
    go rest false e = ap₂ (λ (x : Taken) (l : List Taken). x ∷ l) (fewer-struck (eqb-false m.number n e)) rest

-- ---- the log of the same deeds without message n

none-without : (n : ℕ) → [] ≡ without n []
unfolding without
none-without n = refl

last-without : (n : ℕ) (log : List Taken) (m : Taken) (t : Bool) → eqb m.number n ≡ t → without n (log ++ m ∷ []) ≡ without n log ++ on t [] (fewer n m ∷ [])
unfolding without
last-without n log m t e = without-append n log (m ∷ []) ∙ ap (λ (b : Bool). without n log ++ on b [] (fewer n m ∷ [])) e

never-log : (n : ℕ) (deeds : List Deed) (log : List Taken) → log_from (never n deeds) (without n log) ≡ without n (log_from deeds log)
unfolding log_from never
never-log n [] log = refl
never-log n (Deed.began plan ∷ deeds) log = ap (log_from (never n deeds)) (none-without n) ∙ never-log n deeds []
never-log n (Deed.nothing ∷ deeds) log = never-log n deeds log
never-log n (Deed.took k sender rows ∷ deeds) log = go (eqb k n) refl ∙ never-log n deeds (noted (Deed.took k sender rows) log)
  where
    m : Taken
    m = record { number = k; sender = sender; bodies = rows; stands = true }

    go : (t : Bool) → eqb k n ≡ t
        → log_from (on t (never n deeds) (Deed.took (one_less n k) sender rows ∷ never n deeds)) (without n log) ≡ log_from (never n deeds) (without n (log ++ m ∷ []))
    go true e = ap (log_from (never n deeds)) (sym (last-without n log m true e ∙ append-nil (without n log)))
    go false e = ap (log_from (never n deeds)) (sym (last-without n log m false e))
never-log n (Deed.struck_out k ∷ deeds) log = go (eqb k n) refl ∙ never-log n deeds (map (struck k) log)
  where
    go : (t : Bool) → eqb k n ≡ t
        → log_from (on t (never n deeds) (Deed.struck_out (one_less n k) ∷ never n deeds)) (without n log) ≡ log_from (never n deeds) (without n (map (struck k) log))
    go true e = ap (log_from (never n deeds)) (sym (ap (λ (j : ℕ). without n (map (struck j) log)) (eqb-true k n e) ∙ struck-itself n log))
    go false e = ap (log_from (never n deeds)) (sym (struck-other n k log (eqb-false k n e)))

-- a message that does not stand leaves no rows
standing-without : (n : ℕ) (log : List Taken) → Gone n log → log_standing (without n log) ≡ log_standing log
unfolding without log_standing
standing-without n [] h = refl
standing-without n (m ∷ log) h = go (standing-without n log h.1) (eqb m.number n) refl
  where
    go : log_standing (without n log) ≡ log_standing log → (t : Bool) → eqb m.number n ≡ t → log_standing (on t (without n log) (fewer n m ∷ without n log)) ≡ on m.stands m.bodies [] ++ log_standing log
    go rest true e = rw (h.0 (eqb-true m.number n e)) rest
    go rest false e = ap (λ (us : List (List ℕ)). on m.stands m.bodies [] ++ us) rest

-- two runs whose deeds are the same but for a message that does not stand have the same standing rows
pub same-standing : (n : ℕ) (calls calls' : List Call) (x x' : Day) → Gone n (log_after calls x []) → deeds_after calls' x' [] ≡ never n (deeds_after calls x [])
    → log_standing (log_after calls x []) ≡ log_standing (log_after calls' x' [])
same-standing n calls calls' x x' h e =
    sym (standing-without n (log_after calls x []) h)
    ∙ ap (λ (l : List Taken). log_standing (without n l)) (from calls x)
    ∙ ap log_standing (sym (never-log n (deeds_after calls x []) []))
    ∙ ap (λ (l : List Taken). log_standing (log_from (never n (deeds_after calls x [])) l)) (sym (none-without n))
    ∙ ap (λ (deeds : List Deed). log_standing (log_from deeds [])) (sym e)
    ∙ ap log_standing (sym (from calls' x'))
  where
    from : (calls : List Call) (x : Day) → log_after calls x [] ≡ log_from (deeds_after calls x []) []
    from calls x = ap (log_after calls x) none_from ∙ log-of-deeds calls x []
