-- How many rows and pairs there can be, and how long an area holds them. Assumes nothing.
use mathlib.Core.Path.{◌≡◌, refl, subst}
use mathlib.Core.Bool.{Bool, true, false, ◌&&◌}
use mathlib.Core.Logic.{◌⊎◌, inl, inr}
use mathlib.Core.List.{List, [], ◌∷◌}
use Prim.Native.Nat.{ℕ, suc, ◌*◌, ◌/◌, ◌≤◌, ◌<◌}
use native.Mathlib.Nat.{suc-mul, le_trans, mul-le-mul_right}
use native.Mathlib.Omega.{arith}
use borrow.Author.Tests.{le-leb, lt-leb, leb-true, leb-false}
use lib.Dec.{leb}
use lib.ListN.{length, length-append}
use Rattle.lists.specs.Logic.{on}
use Rattle.lists.specs.Rows.{rows_of}
use Rattle.lists.proofs.RowLaws.{length-rows_of}
use Rattle.passage.specs.Layout.{body_wide}
use Rattle.reader.specs.Passes.{pass_wide, validity_wide}
use Rattle.plan.specs.Passes.{plan_body}
use Rattle.plan.specs.Rules.{matches, joined_with, joined}
use Rattle.book.specs.Entries.{plan_wide}
use Rattle.opening_write.specs.inner.Steps.{most_plans}
use Rattle.opening.specs.inner.Steps.{most_passes, most_validities}
use Rattle.opening.specs.inner.Joining.{fewer, staged_pairs, few_pairs}

-- ---- the smaller number

pub fewer-first : (a b : ℕ) → a ≤ b → fewer a b ≡ a
unfolding fewer
fewer-first a b h = rw (le-leb a b h)

pub fewer-second : (a b : ℕ) → b < a → fewer a b ≡ b
unfolding fewer
fewer-second a b h = rw (lt-leb a b h)

fewer-within : (a b : ℕ) → (fewer a b ≤ a) × (fewer a b ≤ b)
unfolding fewer
fewer-within a b = go (leb a b) refl
  where
    go : (t : Bool) → leb a b ≡ t → (on t a b ≤ a) × (on t a b ≤ b)
    go true e = let h : a ≤ b = leb-true _ _ e in (omega arith, omega arith)
    go false e = let h : b < a = leb-false _ _ e in (omega arith, omega arith)

-- ---- tests

-- two numbers that are both within what they are tested for
pub both-within : (a m b n : ℕ) → (leb a m && leb b n) ≡ true → (a ≤ m) × (b ≤ n)
both-within a m b n = go (leb a m) (leb b n) refl refl
  where
    go : (s t : Bool) → leb a m ≡ s → leb b n ≡ t → (s && t) ≡ true → (a ≤ m) × (b ≤ n)
    go true true p q e = (leb-true _ _ p, leb-true _ _ q)
    go true false p q e = absurd (let z : ◌≡◌ {A = ℕ} 0 1 = cc in omega arith)
    go false true p q e = absurd (let z : ◌≡◌ {A = ℕ} 0 1 = cc in omega arith)
    go false false p q e = absurd (let z : ◌≡◌ {A = ℕ} 0 1 = cc in omega arith)

-- ---- how many are joined at most

-- what is joined has room in the area and, at most, in the book
pub most-within : (room k : ℕ) → (fewer room (k / body_wide) ≤ room) × (fewer room (k / body_wide) * body_wide ≤ k)
most-within room k = let w = fewer-within room (k / body_wide) in let l = w.1 in (w.0, omega arith)

-- an area that holds q bodies, or as many as any book, is not what j ≤ q lack room in
pub enough-room : (q room k j : ℕ) → (q * body_wide ≤ k) ⊎ (most_plans * body_wide ≤ k) → j ≤ q → room ≤ most_plans → fewer room (k / body_wide) < j → fewer room (k / body_wide) ≡ room
unfolding fewer
enough-room q room k j e l r = go (leb room (k / body_wide)) refl e
  where
    go : (t : Bool) → leb room (k / body_wide) ≡ t → (q * body_wide ≤ k) ⊎ (most_plans * body_wide ≤ k) → on t room (k / body_wide) < j → on t room (k / body_wide) ≡ room
    go true p f h = refl
    go false p (inl f) h = let z : k / body_wide < room = leb-false _ _ p in absurd (omega arith)
    go false p (inr f) h = let z : k / body_wide < room = leb-false _ _ p in absurd (omega arith)

-- n of at most `most` have room in the area and in the book
pub few-joined : (n most room k : ℕ) → n ≤ most → most * body_wide ≤ k → most ≤ room / plan_wide → (n * body_wide ≤ k) × (n * plan_wide ≤ room)
few-joined n most room k h f e = (omega arith, omega arith)

-- ---- how many pairs there can be

with-few : (p : List ℕ) (vs : List (List ℕ)) → length (joined_with p vs) ≤ length vs
unfolding joined_with
with-few p [] = omega arith
with-few p (v ∷ vs) = go (matches p v) (with-few p vs)
  where
    go : (b : Bool) → length (joined_with p vs) ≤ length vs → length (on b (plan_body p v ∷ joined_with p vs) (joined_with p vs)) ≤ suc (length vs)
    go true h = omega arith
    go false h = omega arith

joined-few : (ps vs : List (List ℕ)) → length (joined ps vs) ≤ length ps * length vs
unfolding joined
joined-few [] vs = omega arith
joined-few (p ∷ ps) vs =
    let a = with-few p vs in
    let b = joined-few ps vs in
    let l = length-append (joined_with p vs) (joined ps vs) in
    let m = suc-mul (length ps) (length vs) in
    omega arith

pub pairs-few : (np : ℕ) (passes : List ℕ) (nv : ℕ) (validities : List ℕ) → length (staged_pairs np passes nv validities) ≤ np * nv
pairs-few np passes nv validities =
    subst (λ (x : ℕ). length (staged_pairs np passes nv validities) ≤ x * nv) (length-rows_of pass_wide np passes)
    (subst (λ (x : ℕ). length (staged_pairs np passes nv validities) ≤ length (rows_of pass_wide np passes) * x) (length-rows_of validity_wide nv validities)
    (joined-few (rows_of pass_wide np passes) (rows_of validity_wide nv validities)))

-- their number is far below what a number holds
pub pairs_below : (np nv : ℕ) → np ≤ most_passes → nv ≤ most_validities → np * nv ≤ most_passes * most_validities
pairs_below np nv p v = le_trans (mul-le-mul_right nv p) (omega arith)

pub few-fit : (q : ℕ) → q ≤ few_pairs → q * body_wide ≤ few_pairs * body_wide
few-fit q h = omega arith
