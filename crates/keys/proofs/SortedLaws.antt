-- Laws of `sorted_rows` and `lookup` on lists of rows. Assumes nothing.
use mathlib.Core.Path.{◌≡◌, refl, ap, ◌∙◌}
use mathlib.Core.Bool.{true}
use mathlib.Core.List.{List, [], ◌∷◌, ◌++◌}
use Prim.Native.Nat.{ℕ, zero, suc, ◌+◌, ◌<◌}
use native.Mathlib.Nat.{add-zero, add-suc, suc-add}
use native.Mathlib.Omega.{arith}
use lib.ListN.{length, get_or}
use Rattle.std.specs.declared.cmp.Ordering.{Ordering}
use Rattle.std.specs.declared.cmp.Ordering.TheVariants.{Less, Equal, Greater}
use Rattle.std.specs.Prelude.{Result, Ok, Err}
use Rattle.passage.specs.Layout.{key_of}
use Rattle.keys.specs.Keys.{cmp, by_order}
use Rattle.keys.specs.Sorted.{is_less, rises_from, sorted_rows, lookup_from}
use Rattle.lists.proofs.LogicLaws.{and-pass}
use Rattle.keys.proofs.KeyLaws.{cmp-trans, cmp-same}

pub less-is : (o : Ordering) → is_less o ≡ true → o ≡ Less
less-is Less e = refl
less-is Equal e = let z : ◌≡◌ {A = ℕ} 0 1 = cc in absurd (omega arith)
less-is Greater e = let z : ◌≡◌ {A = ℕ} 0 1 = cc in absurd (omega arith)

-- the first step of a rising list, and the rest
pub rises-head : (r s : List ℕ) (rs : List (List ℕ)) → rises_from r (s ∷ rs) ≡ true → cmp (key_of r) (key_of s) ≡ Less
unfolding rises_from
rises-head r s rs h = less-is _ (and-pass _ (rises_from s rs) h).0

pub rises-tail : (r s : List ℕ) (rs : List (List ℕ)) → rises_from r (s ∷ rs) ≡ true → rises_from s rs ≡ true
unfolding rises_from
rises-tail r s rs h = (and-pass (is_less (cmp (key_of r) (key_of s))) _ h).1

-- a row is below each row after it
pub below : (r : List ℕ) (xs : List (List ℕ)) (y : List ℕ) (ys : List (List ℕ)) → rises_from r (xs ++ y ∷ ys) ≡ true → cmp (key_of r) (key_of y) ≡ Less
below r [] y ys h = rises-head r y ys h
below r (x ∷ xs) y ys h = cmp-trans (key_of r) (key_of x) (key_of y) (rises-head r x (xs ++ y ∷ ys) h) (below x xs y ys (rises-tail r x (xs ++ y ∷ ys) h))

rises-left : (r : List ℕ) (xs ys : List (List ℕ)) → rises_from r (xs ++ ys) ≡ true → rises_from r xs ≡ true
unfolding rises_from
rises-left r [] ys h = refl
rises-left r (x ∷ xs) ys h = rw (rises-head r x (xs ++ ys) h) (rises-left x xs ys (rises-tail r x (xs ++ ys) h))

rises-right : (r : List ℕ) (xs : List (List ℕ)) (y : List ℕ) (ys : List (List ℕ)) → rises_from r (xs ++ y ∷ ys) ≡ true → rises_from y ys ≡ true
rises-right r [] y ys h = rises-tail r y ys h
rises-right r (x ∷ xs) y ys h = rises-right x xs y ys (rises-tail r x (xs ++ y ∷ ys) h)

pub sorted-left : (xs ys : List (List ℕ)) → sorted_rows (xs ++ ys) ≡ true → sorted_rows xs ≡ true
unfolding sorted_rows
sorted-left [] ys h = refl
sorted-left (x ∷ xs) ys h = rises-left x xs ys h

pub sorted_tail : (y : List ℕ) (ys : List (List ℕ)) → rises_from y ys ≡ true → sorted_rows ys ≡ true
unfolding sorted_rows
sorted_tail y [] h = refl
sorted_tail y (z ∷ ys) h = rises-tail y z ys h

pub sorted_rises : (y : List ℕ) (ys : List (List ℕ)) → sorted_rows (y ∷ ys) ≡ true → rises_from y ys ≡ true
unfolding sorted_rows
sorted_rises y ys h = h

pub sorted-cons : (y : List ℕ) (ys : List (List ℕ)) → rises_from y ys ≡ true → sorted_rows (y ∷ ys) ≡ true
unfolding sorted_rows
sorted-cons y ys h = h

pub sorted-right : (xs : List (List ℕ)) (y : List ℕ) (ys : List (List ℕ)) → sorted_rows (xs ++ y ∷ ys) ≡ true → sorted_rows ys ≡ true
unfolding sorted_rows
sorted-right [] y ys h = sorted_tail y ys h
sorted-right (x ∷ xs) y ys h = sorted_tail y ys (rises-right x xs y ys h)

-- a row above the key ends the search
pub lookup-left : (i : ℕ) (k : List ℕ) (xs : List (List ℕ)) (y : List ℕ) (ys : List (List ℕ)) → cmp (key_of y) k ≡ Greater → lookup_from i k (xs ++ y ∷ ys) ≡ lookup_from i k xs
unfolding lookup_from
lookup-left i k [] y ys e = rw e
lookup-left i k (x ∷ xs) y ys e = ap (λ (f : Result ℕ ℕ). by_order (cmp (key_of x) k) f (Ok i) (Err i)) (lookup-left (suc i) k xs y ys e)

lookup-less : (i : ℕ) (k x : List ℕ) (xs : List (List ℕ)) → cmp (key_of x) k ≡ Less → lookup_from i k (x ∷ xs) ≡ lookup_from (suc i) k xs
unfolding lookup_from
lookup-less i k x xs e = rw e

lookup-same : (i : ℕ) (k x : List ℕ) (xs : List (List ℕ)) → cmp (key_of x) k ≡ Equal → lookup_from i k (x ∷ xs) ≡ Ok i
unfolding lookup_from
lookup-same i k x xs e = rw e

-- rows below a row that is not above the key are passed
pub lookup-pass : (i : ℕ) (k : List ℕ) (xs : List (List ℕ)) (y : List ℕ) (ys : List (List ℕ)) → sorted_rows (xs ++ y ∷ ys) ≡ true → ((a : List ℕ) → cmp a (key_of y) ≡ Less → cmp a k ≡ Less)
    → lookup_from i k (xs ++ y ∷ ys) ≡ lookup_from (i + length xs) k (y ∷ ys)
unfolding sorted_rows
lookup-pass i k [] y ys h less = rw add-zero
lookup-pass i k (x ∷ xs) y ys h less =
    rw (add-suc, ← (suc-add i (length xs)))
    (lookup-less i k x (xs ++ y ∷ ys) (less (key_of x) (below x xs y ys h)) ∙ lookup-pass (suc i) k xs y ys (sorted_tail x (xs ++ y ∷ ys) h) less)

pub lookup-right : (i : ℕ) (k : List ℕ) (xs : List (List ℕ)) (y : List ℕ) (ys : List (List ℕ)) → sorted_rows (xs ++ y ∷ ys) ≡ true → cmp (key_of y) k ≡ Less
    → lookup_from i k (xs ++ y ∷ ys) ≡ lookup_from (suc (i + length xs)) k ys
lookup-right i k xs y ys h e = lookup-pass i k xs y ys h (λ a f. cmp-trans a (key_of y) k f e) ∙ lookup-less (i + length xs) k y ys e

pub lookup-here : (i : ℕ) (k : List ℕ) (xs : List (List ℕ)) (y : List ℕ) (ys : List (List ℕ)) → sorted_rows (xs ++ y ∷ ys) ≡ true → cmp (key_of y) k ≡ Equal
    → lookup_from i k (xs ++ y ∷ ys) ≡ Ok (i + length xs)
lookup-here i k xs y ys h e = lookup-pass i k xs y ys h (λ a f. rw (← (cmp-same (key_of y) k e)) f) ∙ lookup-same (i + length xs) k y ys e

-- ---- neighbours

pub sorted-pair : (rs : List (List ℕ)) (i : ℕ) → sorted_rows rs ≡ true → i + 1 < length rs → cmp (key_of (get_or rs i [])) (key_of (get_or rs (i + 1) [])) ≡ Less
sorted-pair [] i h l = absurd (omega arith)
sorted-pair (r ∷ []) i h l = absurd (omega arith)
sorted-pair (r ∷ s ∷ rs) zero h l = rises-head r s rs (sorted_rises r (s ∷ rs) h)
sorted-pair (r ∷ s ∷ rs) (suc i) h l = rw (suc-add i 1) (sorted-pair (s ∷ rs) i (sorted_tail r (s ∷ rs) (sorted_rises r (s ∷ rs) h)) (omega arith))

pub pairs-sorted : (rs : List (List ℕ)) → ((i : ℕ) → i + 1 < length rs → cmp (key_of (get_or rs i [])) (key_of (get_or rs (i + 1) [])) ≡ Less) → sorted_rows rs ≡ true
unfolding sorted_rows rises_from
pairs-sorted [] f = refl
pairs-sorted (r ∷ []) f = refl
pairs-sorted (r ∷ s ∷ rs) f = rw (f 0 (omega arith)) (pairs-sorted (s ∷ rs) (λ i h. rw (suc-add i 1) at (f (suc i) (omega arith))))
