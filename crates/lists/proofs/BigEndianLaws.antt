-- Laws of numbers as bytes, over any width. Assumes nothing.
use mathlib.Core.Path.{◌≡◌, refl, sym, ap, ◌∙◌}
use mathlib.Core.Bool.{Bool, true, false}
use mathlib.Core.List.{List, [], ◌∷◌, ◌++◌}
use Prim.Native.Nat.{ℕ, zero, suc, ◌+◌, ◌*◌, ◌/◌, ◌%◌, ◌^◌, ◌≤◌, ◌<◌}
use native.Mathlib.Nat.{add-zero, zero-add, zero-mul, suc-mul, add-mul, mul_assoc, mul_comm, mul-le-mul_right, mod-lt, mod-one, mod-eq_of_lt, div-eq_of_lt, div-add-mod', mul-add-div_right, mul-add-mod_self_right, pow-suc, one-le-pow, le_of_lt, le_antisymm}
use native.Mathlib.Omega.{arith}
use borrow.Author.Tests.{lt-ltb, le-ltb, ltb-true, ltb-false}
use lib.Dec.{ltb}
use lib.Pow.{pow-add}
use lib.ListN.{length, length-append}
use Rattle.lists.specs.Logic.{on}
use Rattle.lists.specs.Each.{Bytes}
use Rattle.lists.specs.Part.{part, over}
use Rattle.lists.specs.BigEndian.{number, spelled, precedes}
use Rattle.lists.proofs.ReadLaws.{part-written}

power-positive : (w : ℕ) → 0 < 256 ^ w
power-positive w = one-le-pow w 256 (omega arith)

pub length-spelled : (w v : ℕ) → length (spelled w v) ≡ w
unfolding spelled
length-spelled zero v = refl
length-spelled (suc w) v = ap suc (length-spelled w v)

pub bytes-spelled : (w v : ℕ) → Bytes (spelled w v)
unfolding spelled
bytes-spelled zero v = tt
bytes-spelled (suc w) v = (mod-lt (v / 256 ^ w) (omega arith), bytes-spelled w v)

pub spelled-zero : (v : ℕ) → spelled 0 v ≡ []
unfolding spelled
spelled-zero v = refl

pub spelled_suc : (w v : ℕ) → spelled (suc w) v ≡ v / 256 ^ w % 256 ∷ spelled w v
unfolding spelled
spelled_suc w v = refl

-- ---- the number of a list: by its first byte, by its last, and of two lists in a row

pub number-nil : number [] ≡ 0
unfolding number
number-nil = refl

pub number-cons : (b : ℕ) (l : List ℕ) → number (b ∷ l) ≡ b * 256 ^ length l + number l
unfolding number
number-cons b l = refl

pub number_append : (l m : List ℕ) → number (l ++ m) ≡ number l * 256 ^ length m + number m
unfolding number
number_append [] m = rw (zero-mul, zero-add)
number_append (b ∷ l) m =
    let p = 256 ^ length l in
    let q = 256 ^ length m in
    let e : b * 256 ^ length (l ++ m) ≡ b * p * q = rw (length-append, pow-add) (sym (mul_assoc b p q)) in
    let f : (b * p + number l) * q ≡ b * p * q + number l * q = add-mul (b * p) (number l) q in
    omega (arith, number_append l m)

pub number-snoc : (l : List ℕ) (b : ℕ) → number (l ++ b ∷ []) ≡ number l * 256 + b
unfolding number
number-snoc l b = number_append l (b ∷ []) ∙ omega arith

pub number-below : (l : List ℕ) → Bytes l → number l < 256 ^ length l
unfolding number
number-below [] h = omega arith
number-below (b ∷ l) h =
    let k : b ≤ 255 = omega (arith, h.0) in
    let m : b * 256 ^ length l ≤ 255 * 256 ^ length l = mul-le-mul_right (256 ^ length l) k in
    rw pow-suc (omega (arith, number-below l h.1))

-- ---- there and back

-- v's remainder by p * 256 is the digit above p, and v's remainder by p
remainder : (v p : ℕ) → 0 < p → v % (p * 256) ≡ v / p % 256 * p + v % p
remainder v p h =
    let q = v / p / 256 in
    let d = v / p % 256 in
    let b : d * p ≤ 255 * p = mul-le-mul_right p (omega (arith, mod-lt (v / p) {m = 256} (omega arith))) in
    let f : d * p + v % p < p * 256 = omega (arith, mod-lt v h) in
    let g : q * 256 * p ≡ q * (p * 256) = mul_assoc q 256 p ∙ ap (λ (n : ℕ). q * n) (mul_comm 256 p) in
    let e : v ≡ q * (p * 256) + (d * p + v % p) =
    sym (div-add-mod' v p) ∙ ap (λ (n : ℕ). n * p + v % p) (sym (div-add-mod' (v / p) 256)) ∙ ap (λ (n : ℕ). n + v % p) (add-mul (q * 256) d p) ∙ omega arith in
    ap (λ (n : ℕ). n % (p * 256)) e ∙ mul-add-mod_self_right q (p * 256) (d * p + v % p) ∙ mod-eq_of_lt f

pub number-spelled-mod : (w v : ℕ) → number (spelled w v) ≡ v % 256 ^ w
unfolding number spelled
number-spelled-mod zero v = sym (mod-one v)
number-spelled-mod (suc w) v =
    number-cons (v / 256 ^ w % 256) (spelled w v) ∙ rw (length-spelled, number-spelled-mod w v, pow-suc) (sym (remainder v (256 ^ w) (power-positive w)))

pub number_spelled : (w v : ℕ) → v < 256 ^ w → number (spelled w v) ≡ v
number_spelled w v h = number-spelled-mod w v ∙ mod-eq_of_lt h

-- what stands above the last w bytes is not spelled
spelled-high : (w k v : ℕ) → spelled w (k * 256 ^ w + v) ≡ spelled w v
unfolding spelled
spelled-high zero k v = refl
spelled-high (suc w) k v =
    let e : k * 256 ^ suc w ≡ k * 256 * 256 ^ w = rw pow-suc (ap (λ (n : ℕ). k * n) (mul_comm (256 ^ w) 256) ∙ sym (mul_assoc k 256 (256 ^ w))) in
    rw (e, mul-add-div_right (power-positive w) (k * 256) v, mul-add-mod_self_right k 256 (v / 256 ^ w), spelled-high w (k * 256) v)

pub spelled-number : (l : List ℕ) → Bytes l → spelled (length l) (number l) ≡ l
unfolding number spelled
spelled-number [] h = refl
spelled-number (b ∷ l) h =
    let p = 256 ^ length l in
    let e : (b * p + number l) / p ≡ b = mul-add-div_right (power-positive (length l)) b (number l) ∙ rw (div-eq_of_lt (number-below l h.1)) (add-zero b) in
    rw (e, mod-eq_of_lt h.0, spelled-high (length l) b (number l), spelled-number l h.1)

-- ---- byte order is number order, between lists of one length

module _ (l m : List ℕ) (e : length l ≡ length m) (h : Bytes l) where
  -- the first byte decides
  pub number-first : (a b : ℕ) → a < b → number (a ∷ l) < number (b ∷ m)
  unfolding number
  number-first a b k =
      let s : suc a * 256 ^ length m ≤ b * 256 ^ length m = mul-le-mul_right (256 ^ length m) k in
      let p : number l < 256 ^ length m = rw e at (number-below l h) in
      rw e (omega (arith, suc-mul a (256 ^ length m)))

  pub number_same : Bytes m → number l ≡ number m → l ≡ m
  number_same k n = sym (spelled-number l h) ∙ rw (e, n) (spelled-number m k)

-- where the first bytes agree, the rest decides
pub number-rest : (l m : List ℕ) (a : ℕ) → length l ≡ length m → number l < number m → number (a ∷ l) < number (a ∷ m)
unfolding number
number-rest l m a e h = rw e (omega arith)

ltb-raised : (c x y : ℕ) → ltb (c + x) (c + y) ≡ ltb x y
ltb-raised c x y = go (ltb x y) refl
  where
    go : (t : Bool) → ltb x y ≡ t → ltb (c + x) (c + y) ≡ t
    go true e = let h = ltb-true x y e in lt-ltb (c + x) (c + y) (omega arith)
    go false e = let h = ltb-false x y e in le-ltb (c + x) (c + y) (omega arith)

by_first : (x y : ℕ) (l m : List ℕ) → length l ≡ length m → Bytes l → Bytes m → (t u : Bool) → ltb x y ≡ t → ltb y x ≡ u →
    precedes l m ≡ ltb (number l) (number m) → on t true (on u false (precedes l m)) ≡ ltb (number (x ∷ l)) (number (y ∷ m))
by_first x y l m e h k true u p q r = sym (lt-ltb _ _ (number-first l m e h x y (ltb-true x y p)))
by_first x y l m e h k false true p q r = sym (le-ltb _ _ (le_of_lt (number-first m l (sym e) k y x (ltb-true y x q))))
by_first x y l m e h k false false p q r =
    let s : x ≡ y = le_antisymm (ltb-false y x q) (ltb-false x y p) in
    r ∙ sym (rw (s, number-cons y l, number-cons y m, e) (ltb-raised (y * 256 ^ length m) (number l) (number m)))

pub precedes-number : (l m : List ℕ) → length l ≡ length m → Bytes l → Bytes m → precedes l m ≡ ltb (number l) (number m)
unfolding precedes number
precedes-number [] [] e h k = refl
precedes-number [] (y ∷ m) e h k = absurd (omega arith)
precedes-number (x ∷ l) [] e h k = absurd (omega arith)
precedes-number (x ∷ l) (y ∷ m) e h k = by_first x y l m (omega arith) h.1 k.1 (ltb x y) (ltb y x) refl refl (precedes-number l m (omega arith) h.1 k.1)

-- a number that was written is read back
pub number-written : (at w v : ℕ) (s : List ℕ) → at + w ≤ length s → v < 256 ^ w → number (part at w (over at (spelled w v) s)) ≡ v
number-written at w v s h k =
    let l = length-spelled w v in
    let p : part at w (over at (spelled w v) s) ≡ spelled w v = rw l at (part-written at (spelled w v) s (omega arith)) in
    ap number p ∙ number_spelled w v k
