-- Laws of tests: joined by `&&` and `||`, of a range, and as numbers. Assumes nothing.
use mathlib.Core.Path.{◌≡◌, refl, sym, ◌∙◌}
use mathlib.Core.Bool.{Bool, true, false, ◌||◌, ◌&&◌}
use mathlib.Core.List.{List, [], ◌∷◌}
use mathlib.Core.Logic.{◌⊎◌, inl, inr, ⊎_elim}
use Prim.Native.Nat.{ℕ, zero, suc, ◌<◌, ◌≤◌}
use native.Mathlib.Omega.{arith}
use borrow.Author.Tests.{le-leb, lt-leb, leb-true}
use lib.Dec.{leb}
use lib.ListN.{get_or}
use mir.Val.{bool_byte}
use Rattle.lists.specs.Logic.{within}

-- ---- all of several tests

pub and-false : (a : Bool) → a && false ≡ false
and-false true = refl
and-false false = refl

pub and-true : (a : Bool) → a && true ≡ a
and-true true = refl
and-true false = refl

pub and-pass : (a b : Bool) → a && b ≡ true → (a ≡ true) × (b ≡ true)
and-pass true b e = (refl, e)
and-pass false b e = absurd (let z : ◌≡◌ {A = ℕ} 0 1 = cc in omega arith)

pub and_assoc : (a b c : Bool) → a && b && c ≡ a && (b && c)
and_assoc true b c = refl
and_assoc false b c = refl

-- a && b && c .. , of the first test and the list of the others
abbrev pub all_of : Bool → List Bool → Bool
all_of a [] = a
all_of a (b ∷ l) = all_of (a && b) l

-- where all pass, the one at each place does
pub all_pass : (a : Bool) (l : List Bool) → all_of a l ≡ true → (i : ℕ) → get_or (a ∷ l) i true ≡ true
all_pass a [] e zero = e
all_pass a [] e (suc i) = refl
all_pass a (b ∷ l) e zero = (and-pass a b (all_pass (a && b) l e 0)).0
all_pass a (b ∷ l) e (suc zero) = (and-pass a b (all_pass (a && b) l e 0)).1
all_pass a (b ∷ l) e (suc (suc i)) = all_pass (a && b) l e (suc i)

-- ---- one of several tests

pub or-true : (a : Bool) → a || true ≡ true
or-true true = refl
or-true false = refl

pub or-pass : (a b : Bool) → a || b ≡ true → (a ≡ true) ⊎ (b ≡ true)
or-pass true b e = inl refl
or-pass false b e = inr e

pub or-fail : (a b : Bool) → a || b ≡ false → (a ≡ false) × (b ≡ false)
or-fail true b e = absurd (let z : ◌≡◌ {A = ℕ} 0 1 = cc in omega arith)
or-fail false b e = (refl, e)

pub pass-or : (a b : Bool) → (a ≡ true) ⊎ (b ≡ true) → a || b ≡ true
pass-or a b h = ⊎_elim (λ e. rw e) (go a) h
  where
    go : (a : Bool) → b ≡ true → a || b ≡ true
    go true e = refl
    go false e = e

pub or_assoc : (a b c : Bool) → a || b || c ≡ a || (b || c)
or_assoc true b c = refl
or_assoc false b c = refl

-- ---- a test by another

-- two tests are one where each passes with the other
pub tests-equal : (a b : Bool) → (a ≡ true → b ≡ true) → (b ≡ true → a ≡ true) → a ≡ b
tests-equal true b f g = sym (f refl)
tests-equal false true f g = g refl
tests-equal false false f g = refl

-- a test does not pass where what follows from it does not
pub not-then : (a b : Bool) → (a ≡ true → b ≡ true) → b ≡ false → a ≡ false
not-then true b f e = sym (f refl) ∙ e
not-then false b f e = refl

-- ---- a range

module _ (lo hi x : ℕ) where
  pub in-range : lo ≤ x → x ≤ hi → within lo hi x ≡ true
  in-range h k = rw (le-leb lo x h, le-leb x hi k)

  pub below-range : x < lo → within lo hi x ≡ false
  below-range h = rw (lt-leb lo x h)

  pub above-range : hi < x → within lo hi x ≡ false
  above-range h = rw (lt-leb x hi h) (and-false (leb lo x))

  pub within-true : within lo hi x ≡ true → (lo ≤ x) × (x ≤ hi)
  within-true e =
      let b = and-pass (leb lo x) (leb x hi) e in
      (leb-true lo x b.0, leb-true x hi b.1)

-- ---- a test as the number 0 or 1, as a count of tests adds it up

pub bool-most : (t : Bool) → bool_byte t ≤ 1
bool-most true = omega arith
bool-most false = omega arith

pub bool-none : (t : Bool) → bool_byte t ≡ 0 → t ≡ false
bool-none true e = absurd (omega arith)
bool-none false e = refl
