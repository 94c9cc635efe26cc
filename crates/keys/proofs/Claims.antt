-- The claims of `specs/Claims.antt` hold. Assumes nothing.
use mathlib.Core.Path.{◌≡◌, refl, sym, ap, ◌∙◌}
use mathlib.Core.Bool.{Bool, true, false}
use mathlib.Core.List.{List, [], ◌∷◌}
use Prim.Native.Nat.{ℕ}
use lib.Dec.{ltb}
use Rattle.lists.specs.Logic.{on}
use Rattle.lists.specs.BigEndian.{precedes}
use Rattle.std.specs.declared.cmp.Ordering.TheVariants.{Less, Greater}
use Rattle.keys.specs.Keys.{cmp}
use Rattle.keys.specs.Sorted.{is_less}
use Rattle.keys.specs.Claims.{LessExactly, SameExactly, MoreExactly, All}
use Rattle.keys.proofs.KeyLaws.{cmp-refl, cmp-same, flipped}
use Rattle.keys.proofs.SortedLaws.{less-is}

orders-agree : (a b : List ℕ) → is_less (cmp a b) ≡ precedes a b
unfolding cmp precedes
orders-agree [] [] = refl
orders-agree [] (y ∷ ys) = refl
orders-agree (x ∷ xs) [] = refl
orders-agree (x ∷ xs) (y ∷ ys) = go (ltb x y) (ltb y x) (orders-agree xs ys)
  where
    go : (s t : Bool) → is_less (cmp xs ys) ≡ precedes xs ys → is_less (on s Less (on t Greater (cmp xs ys))) ≡ on s true (on t false (precedes xs ys))
    go true t e = refl
    go false true e = refl
    go false false e = e

less-exactly : LessExactly
less-exactly a b = (λ e. sym (orders-agree a b) ∙ ap is_less e, λ e. less-is (cmp a b) (orders-agree a b ∙ e))

same-exactly : SameExactly
same-exactly a b = (cmp-same a b, λ e. rw e (cmp-refl b))

more-exactly : MoreExactly
more-exactly a b = (flipped a b Greater, flipped b a Less)

pub claims : All
claims = (less-exactly, same-exactly, more-exactly)
