-- What `contains` of a range `lo..=hi` of numbers answers. Assumes nothing.
use mathlib.Core.Path.{◌≡◌, refl, sym}
use mathlib.Core.Bool.{Bool, true, false}
use Prim.Native.Nat.{ℕ}
use native.Mathlib.Omega.{arith}
use borrow.Author.Tests.{le-leb, lt-leb, ltb-true, ltb-false, eqb-true, eqb-false}
use lib.Dec.{eqb, ltb, leb}
use Rattle.std.specs.Prelude.{Some, cond}
use Rattle.std.specs.Ordering.{nat_cmp, is_le}
use Rattle.std.specs.declared.cmp.Ordering.TheVariants.{Less, Equal, Greater}
use Rattle.std.specs.declared.ops.RangeInclusive.{RangeInclusive}
use Rattle.std.specs.Range.{range_inclusive_contains, range_inclusive_start, range_inclusive_end, range_inclusive_exhausted}
use Rattle.lists.specs.Logic.{within}

number-le : (x y : ℕ) → is_le (nat_cmp x y) ≡ leb x y
number-le x y = go (ltb x y) refl (eqb x y) refl
  where
    go : (a : Bool) → ltb x y ≡ a → (b : Bool) → eqb x y ≡ b → is_le (cond a Less (cond b Equal Greater)) ≡ leb x y
    go true e b f = sym (le-leb x y (omega (arith, ltb-true x y e)))
    go false e true f = sym (le-leb x y (omega (arith, eqb-true x y f)))
    go false e false f = sym (lt-leb x y (omega (arith, ltb-false x y e, eqb-false x y f)))

-- a range that was just made
pub range-within : (r : RangeInclusive ℕ) (lo hi x : ℕ) → range_inclusive_start r ≡ lo → range_inclusive_end r ≡ hi → range_inclusive_exhausted r ≡ false
    → range_inclusive_contains (λ a b. Some (nat_cmp a b)) r x ≡ within lo hi x
range-within r lo hi x s e f = rw (f, s, e, number-le lo x, number-le x hi)
