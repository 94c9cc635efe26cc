-- Laws of `cmp`. Assumes nothing.
use mathlib.Core.Path.{◌≡◌, refl, sym, ap, ◌∙◌}
use mathlib.Core.Bool.{Bool, true, false}
use mathlib.Core.List.{List, [], ◌∷◌}
use Prim.Native.Nat.{ℕ, ◌+◌, ◌-◌, ◌≤◌, ◌<◌}
use native.Mathlib.Nat.{add-zero}
use native.Mathlib.Omega.{arith}
use lib.ListN.{length, get_or}
use mathlib.Core.Logic.{◌⊎◌, inl, inr}
use lib.Dec.{ltb}
use borrow.Author.Tests.{lt-ltb, le-ltb, ltb-true, ltb-false}
use Rattle.std.specs.declared.cmp.Ordering.{Ordering}
use Rattle.std.specs.declared.cmp.Ordering.TheVariants.{Less, Equal, Greater}
use Rattle.lists.specs.Part.{part}
use Rattle.lists.specs.Text.{same}
use Rattle.keys.specs.Keys.{cmp, by_byte}
use Rattle.lists.proofs.PartLaws.{part_step, part-done}
use Rattle.lists.proofs.TextLaws.{same-equal, same_refl}

-- a loop's start: no byte has been passed
pub cmp-begin : (a b : List ℕ) (p q n : ℕ) → cmp (part p n a) (part q n b) ≡ cmp (part (p + 0) (n - 0) a) (part (q + 0) (n - 0) b)
cmp-begin a b p q n =
    let e : n - 0 ≡ n = omega arith in
    rw (add-zero p, add-zero q, e)

-- one byte of two parts decides, or else the rest
module _ (a b : List ℕ) (p q n i : ℕ) (ha : p + i < length a) (hb : q + i < length b) (hi : i < n) where
  pub cmp_step : cmp (part (p + i) (n - i) a) (part (q + i) (n - i) b) ≡ by_byte (get_or a (p + i) 0) (get_or b (q + i) 0) (cmp (part (p + (i + 1)) (n - (i + 1)) a) (part (q + (i + 1)) (n - (i + 1)) b))
  unfolding cmp
  cmp_step = rw (part_step a p n i ha hi, part_step b q n i hb hi)

pub cmp-done : (a b : List ℕ) (p q n i : ℕ) → n ≤ i → cmp (part p (n - i) a) (part q (n - i) b) ≡ Equal
unfolding cmp
cmp-done a b p q n i h = rw (part-done a p n i h, part-done b q n i h)

pub tri : (x y : ℕ) → (x < y) ⊎ ((x ≡ y) ⊎ (y < x))
tri x y = go (ltb x y) refl (ltb y x) refl
  where
    go : (p : Bool) → ltb x y ≡ p → (q : Bool) → ltb y x ≡ q → (x < y) ⊎ ((x ≡ y) ⊎ (y < x))
    go true e q f = inl (ltb-true x y e)
    go false e true f = inr (inr (ltb-true y x f))
    go false e false f = let a : y ≤ x = ltb-false x y e in let b : x ≤ y = ltb-false y x f in inr (inl (omega arith))

pub by_byte-lt : (x y : ℕ) (o : Ordering) → x < y → by_byte x y o ≡ Less
by_byte-lt x y o h = rw (lt-ltb x y h)

pub by_byte-eq : (x y : ℕ) (o : Ordering) → x ≡ y → by_byte x y o ≡ o
by_byte-eq x y o h = let a : y ≤ x = omega arith in let b : x ≤ y = omega arith in rw (le-ltb x y a, le-ltb y x b)

pub by_byte-gt : (x y : ℕ) (o : Ordering) → y < x → by_byte x y o ≡ Greater
by_byte-gt x y o h = let a : y ≤ x = omega arith in rw (le-ltb x y a, lt-ltb y x h)

abbrev pub flip : Ordering → Ordering
flip Less = Greater
flip Equal = Equal
flip Greater = Less

pub cmp-flip : (a b : List ℕ) → cmp b a ≡ flip (cmp a b)
unfolding cmp
cmp-flip [] [] = refl
cmp-flip [] (y ∷ ys) = refl
cmp-flip (x ∷ xs) [] = refl
cmp-flip (x ∷ xs) (y ∷ ys) = go (cmp-flip xs ys) (tri x y)
  where
    go : cmp ys xs ≡ flip (cmp xs ys) → (x < y) ⊎ ((x ≡ y) ⊎ (y < x)) → by_byte y x (cmp ys xs) ≡ flip (by_byte x y (cmp xs ys))
    go r (inl h) = by_byte-gt y x _ h ∙ ap flip (sym (by_byte-lt x y _ h))
    go r (inr (inl h)) = by_byte-eq y x _ (sym h) ∙ r ∙ ap flip (sym (by_byte-eq x y _ h))
    go r (inr (inr h)) = by_byte-lt y x _ h ∙ ap flip (sym (by_byte-gt x y _ h))

pub cmp-refl : (a : List ℕ) → cmp a a ≡ Equal
unfolding cmp
cmp-refl [] = refl
cmp-refl (x ∷ xs) = by_byte-eq x x _ refl ∙ cmp-refl xs

never : {A : Type 0} (o : Ordering) → o ≡ Less → o ≡ Greater → A
never o p q = let z : ◌≡◌ {A = ℕ} 0 1 = cc in absurd (omega arith)

pub cmp-same : (a b : List ℕ) → cmp a b ≡ Equal → a ≡ b
unfolding cmp
cmp-same [] [] e = refl
cmp-same [] (y ∷ ys) e = let z : ◌≡◌ {A = ℕ} 0 1 = cc in absurd (omega arith)
cmp-same (x ∷ xs) [] e = let z : ◌≡◌ {A = ℕ} 0 1 = cc in absurd (omega arith)
cmp-same (x ∷ xs) (y ∷ ys) e = go (cmp-same xs ys) (tri x y)
  where
    go : (cmp xs ys ≡ Equal → xs ≡ ys) → (x < y) ⊎ ((x ≡ y) ⊎ (y < x)) → x ∷ xs ≡ y ∷ ys
    go ih (inl h) = let l = by_byte-lt x y (cmp xs ys) h in let z : ◌≡◌ {A = ℕ} 0 1 = cc in absurd (omega arith)
    go ih (inr (inl h)) = let r = ih (sym (by_byte-eq x y (cmp xs ys) h) ∙ e) in cc
    go ih (inr (inr h)) = let l = by_byte-gt x y (cmp xs ys) h in let z : ◌≡◌ {A = ℕ} 0 1 = cc in absurd (omega arith)

pub cmp-trans : (a b c : List ℕ) → cmp a b ≡ Less → cmp b c ≡ Less → cmp a c ≡ Less
unfolding cmp
cmp-trans [] [] c e f = let z : ◌≡◌ {A = ℕ} 0 1 = cc in absurd (omega arith)
cmp-trans [] (y ∷ ys) [] e f = let z : ◌≡◌ {A = ℕ} 0 1 = cc in absurd (omega arith)
cmp-trans [] (y ∷ ys) (z ∷ zs) e f = refl
cmp-trans (x ∷ xs) [] c e f = let z : ◌≡◌ {A = ℕ} 0 1 = cc in absurd (omega arith)
cmp-trans (x ∷ xs) (y ∷ ys) [] e f = let z : ◌≡◌ {A = ℕ} 0 1 = cc in absurd (omega arith)
cmp-trans (x ∷ xs) (y ∷ ys) (z ∷ zs) e f = go (cmp-trans xs ys zs) (tri x y) (tri y z)
  where
    go : (cmp xs ys ≡ Less → cmp ys zs ≡ Less → cmp xs zs ≡ Less) → (x < y) ⊎ ((x ≡ y) ⊎ (y < x)) → (y < z) ⊎ ((y ≡ z) ⊎ (z < y)) → by_byte x z (cmp xs zs) ≡ Less
    go ih (inl h) (inl k) = by_byte-lt x z _ (omega arith)
    go ih (inl h) (inr (inl k)) = by_byte-lt x z _ (omega arith)
    go ih (inr (inl h)) (inl k) = by_byte-lt x z _ (omega arith)
    go ih (inr (inl h)) (inr (inl k)) =
        by_byte-eq x z _ (h ∙ k) ∙ ih (sym (by_byte-eq x y _ h) ∙ e) (sym (by_byte-eq y z _ k) ∙ f)
    go ih (inl h) (inr (inr k)) = never _ f (by_byte-gt y z _ k)
    go ih (inr (inl h)) (inr (inr k)) = never _ f (by_byte-gt y z _ k)
    go ih (inr (inr h)) k = never _ e (by_byte-gt x y _ h)

-- `same` and `cmp` agree on which lists are equal
pub same-cmp : (a b : List ℕ) → same a b ≡ true → cmp a b ≡ Equal
same-cmp a b e = rw (same-equal a b e) (cmp-refl b)

pub cmp-is-same : (a b : List ℕ) → cmp a b ≡ Equal → same a b ≡ true
cmp-is-same a b e = rw (cmp-same a b e) (same_refl b)

pub flipped : (a b : List ℕ) (o : Ordering) → cmp a b ≡ o → cmp b a ≡ flip o
flipped a b o e = cmp-flip a b ∙ ap flip e

-- an order is one of three
abbrev pub Cases : Ordering → Type 0
Cases o = (o ≡ Less) ⊎ ((o ≡ Equal) ⊎ (o ≡ Greater))

pub cases : (o : Ordering) → Cases o
cases Less = inl refl
cases Equal = inr (inl refl)
cases Greater = inr (inr refl)

-- and no two of them
pub less-not-same : {A : Type 0} (o : Ordering) → o ≡ Less → o ≡ Equal → A
less-not-same o p q = let z : ◌≡◌ {A = ℕ} 0 1 = cc in absurd (omega arith)

pub more-not-same : {A : Type 0} (o : Ordering) → o ≡ Greater → o ≡ Equal → A
more-not-same o p q = let z : ◌≡◌ {A = ℕ} 0 1 = cc in absurd (omega arith)
