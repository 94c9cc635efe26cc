-- Laws of `same`: it tells equality, and is what `==` of two slices answers. Assumes nothing.
use mathlib.Core.Path.{◌≡◌, refl, ap}
use mathlib.Core.Bool.{true, ◌&&◌}
use mathlib.Core.List.{List, [], ◌∷◌}
use Prim.Native.Nat.{ℕ}
use native.Mathlib.Omega.{arith}
use borrow.Author.Tests.{eq-eqb, eqb-true}
use lib.Dec.{eqb}
use lib.Pointwise.{pointwise}
use Rattle.std.specs.Prelude.{nat_eq}
use Rattle.lists.specs.Text.{same}
use Rattle.lists.proofs.LogicLaws.{and-pass}

-- `same` says true of equal lists and of no others
pub same_refl : (a : List ℕ) → same a a ≡ true
unfolding same
same_refl [] = refl
same_refl (x ∷ a) = rw (eq-eqb x x refl) (same_refl a)

pub same-equal : (a b : List ℕ) → same a b ≡ true → a ≡ b
unfolding same
same-equal [] [] e = refl
same-equal [] (y ∷ b) e = absurd (let z : ◌≡◌ {A = ℕ} 0 1 = cc in omega arith)
same-equal (x ∷ a) [] e = absurd (let z : ◌≡◌ {A = ℕ} 0 1 = cc in omega arith)
same-equal (x ∷ a) (y ∷ b) e =
    let t = and-pass (eqb x y) (same a b) e in
    let p : x ≡ y = eqb-true x y t.0 in
    let q : a ≡ b = same-equal a b t.1 in
    cc

-- what `==` of two slices of bytes answers
pub pointwise-same : (a b : List ℕ) → pointwise nat_eq a b ≡ same a b
unfolding same
pointwise-same [] [] = refl
pointwise-same [] (y ∷ b) = refl
pointwise-same (x ∷ a) [] = refl
pointwise-same (x ∷ a) (y ∷ b) = ap (◌&&◌ (eqb x y)) (pointwise-same a b)
