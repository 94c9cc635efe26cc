-- Numbers in digits: which case of `numeral` holds, what an accepted number is below, and that what is written is read. Assumes nothing.
use mathlib.Core.Path.{◌≡◌, ◌∙◌, refl, sym}
use mathlib.Core.Bool.{Bool, true, false, ◌&&◌}
use mathlib.Core.List.{List, [], ◌∷◌, ◌++◌}
use Prim.Native.Nat.{ℕ, zero, suc, ◌+◌, ◌-◌, ◌*◌, ◌/◌, ◌%◌, ◌^◌, ◌≤◌, ◌<◌}
use native.Mathlib.Nat.{add-zero, zero-add, add-suc, suc-add, pow-suc, pow-le-pow_right}
use native.Mathlib.Numerals.{add-one}
use native.Mathlib.Omega.{arith}
use lib.Dec.{lit<}
use lib.ListN.{length, get_or, drop, length-append}
use lib.Seq.{drop-cons}
use Rattle.std.specs.Prelude.{Option, Some, None}
use Rattle.lists.specs.Logic.{within}
use Rattle.lists.proofs.LogicLaws.{and-false, and-pass, within-true, in-range, below-range, above-range}
use Rattle.field_types.specs.Digits.{only_if, and_then, all_digits, value_from, value, numeral}
use Rattle.field_types.specs.Written.{written}

-- what an accepted number tells of the tests on the way
pub never : {A : Type 0} {n : ℕ} → Some n ≡ None → A
never {n = n} e = absurd (let z : ◌≡◌ {A = ℕ} 0 1 = cc in omega arith)

pub same-is : {m n : ℕ} → Some m ≡ Some n → m ≡ n
same-is e = cc

pub given_is : (b : Bool) (x : Option ℕ) {n : ℕ} → Some n ≡ only_if b x → (b ≡ true) × (Some n ≡ x)
given_is true x e = (refl, e)
given_is false x e = never e

pub given-wrong : (b : Bool) → None ≡ only_if b None
given-wrong true = refl
given-wrong false = refl

pub then_is : (x : Option ℕ) (k : ℕ → Option ℕ) {n : ℕ} → Some n ≡ and_then x k → (m : ℕ) × (Some m ≡ x) × (Some n ≡ k m)
then_is (Some m) k e = (m, refl, e)
then_is None k e = never e

-- one more byte
module _ (f : List ℕ) (i : ℕ) (h : i < length f) where
  pub digits_step : within 48 57 (get_or f i 0) ≡ true → all_digits (drop i f) ≡ all_digits (drop (i + 1) f)
  digits_step t = rw (add-one, drop-cons f i 0 h, t)

  pub digits-stop : within 48 57 (get_or f i 0) ≡ false → all_digits (drop i f) ≡ false
  digits-stop t = rw (drop-cons f i 0 h, t)

  pub value-step : (n : ℕ) → value_from n (drop i f) ≡ value_from (n * 10 + (get_or f i 0 - 48)) (drop (i + 1) f)
  value-step n = rw (add-one, drop-cons f i 0 h)

-- one more digit: the number stays below the next power of ten
pub more-digits : (n d i : ℕ) → n < 10 ^ i → d ≤ 9 → n * 10 + d < 10 ^ (i + 1)
more-digits n d i h k = rw (add-one, pow-suc) (omega arith)

-- a number of at most nine digits
pub nine-digits : (n i : ℕ) → n < 10 ^ i → i ≤ 9 → n < 1000000000
nine-digits n i h k = omega (arith, pow-le-pow_right {n = 10} (lit< tt) k)

-- which case of `numeral` holds
module _ (most : ℕ) (f : List ℕ) where
  pub number-none : length f ≡ 0 → None ≡ numeral most f
  unfolding numeral
  number-none e = rw (below-range 1 most (length f) (omega arith))

  pub number-long : most < length f → None ≡ numeral most f
  unfolding numeral
  number-long h = rw (above-range 1 most (length f) h)

  pub number-other : all_digits f ≡ false → None ≡ numeral most f
  unfolding numeral
  number-other e = rw (e, and-false (within 1 most (length f)))

  pub number_is : (n : ℕ) → (length f ≡ 0 → ⊥) → length f ≤ most → all_digits f ≡ true → value f ≡ n → Some n ≡ numeral most f
  unfolding numeral
  number_is n h k d v = rw (in-range 1 most (length f) (omega arith) k, d, v)

-- digits after those of a number below ten to the i write one below ten to the i and their count
value-below : (f : List ℕ) (n i : ℕ) → all_digits f ≡ true → n < 10 ^ i → value_from n f < 10 ^ (i + length f)
value-below [] n i e h = rw add-zero h
value-below (x ∷ f) n i e h =
    let b = and-pass (within 48 57 x) (all_digits f) e in
    let d = within-true 48 57 x b.0 in
    let t = value-below f (n * 10 + (x - 48)) (i + 1) b.1 (more-digits n (x - 48) i h (omega arith)) in
    rw add-suc (rw (add-one, suc-add) at t)

-- what an accepted number is
pub record Told (most : ℕ) (f : List ℕ) (n : ℕ) : Type 0 where
  pub some : 1 ≤ length f
  pub few : length f ≤ most
  pub digits : all_digits f ≡ true
  pub number : n ≡ value f
  pub small : n < 10 ^ length f
  pub below : n < 10 ^ most

pub number-told : (most : ℕ) (f : List ℕ) {n : ℕ} → Some n ≡ numeral most f → Told most f n
unfolding numeral
number-told most f {n} e =
    let g = given_is (within 1 most (length f) && all_digits f) _ e in
    let b = and-pass (within 1 most (length f)) (all_digits f) g.0 in
    let l = within-true 1 most (length f) b.0 in
    let t : value_from 0 f < 10 ^ length f = rw zero-add at (value-below f 0 0 b.1 (lit< tt)) in
    let q : n ≡ value_from 0 f = same-is g.1 in
    record {
      some = l.0;
      few = l.1;
      digits = b.1;
      number = q;
      small = omega arith;
      below = omega (arith, pow-le-pow_right {n = 10} (lit< tt) l.1);
    }

-- one more digit at the end
value-snoc : (f : List ℕ) (n d : ℕ) → value_from n (f ++ (d ∷ [])) ≡ value_from n f * 10 + (d - 48)
value-snoc [] n d = refl
value-snoc (x ∷ f) n d = value-snoc f (n * 10 + (x - 48)) d

digits-snoc : (f : List ℕ) (d : ℕ) → all_digits f ≡ true → within 48 57 d ≡ true → all_digits (f ++ (d ∷ [])) ≡ true
digits-snoc [] d e h = rw h
digits-snoc (x ∷ f) d e h =
    let b = and-pass (within 48 57 x) (all_digits f) e in
    rw (b.0, digits-snoc f d b.1 h)

-- k digits are k digits, and those of n write n
pub written-length : (k n : ℕ) → length (written k n) ≡ k
written-length zero n = refl
written-length (suc k) n = omega (arith, length-append (written k (n / 10)) ((48 + n % 10) ∷ []), written-length k (n / 10))

pub written-digits : (k n : ℕ) → all_digits (written k n) ≡ true
written-digits zero n = refl
written-digits (suc k) n =
    digits-snoc (written k (n / 10)) (48 + n % 10) (written-digits k (n / 10)) (in-range 48 57 (48 + n % 10) (omega arith) (omega arith))

pub written-value : (k n : ℕ) → n < 10 ^ k → value (written k n) ≡ n
written-value zero n h = omega arith
written-value (suc k) n h =
    let p : n < 10 ^ k * 10 = rw pow-suc at h in
    value-snoc (written k (n / 10)) 0 (48 + n % 10) ∙ omega (arith, written-value k (n / 10) (omega arith))

pub written_read : (most k n : ℕ) → 1 ≤ k → k ≤ most → n < 10 ^ k → numeral most (written k n) ≡ Some n
written_read most k n h l b =
    let e = written-length k n in
    sym (number_is most (written k n) n (λ z. omega arith) (omega arith) (written-digits k n) (written-value k n b))
