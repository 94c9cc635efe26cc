-- What the scans of bytes cite: how far a test is known to hold of none, and where it first holds. Assumes nothing.
use Prim.Native.Nat.{ℕ, zero, suc, ◌+◌, ◌-◌, ◌*◌, ◌/◌, ◌≤◌, ◌<◌}
use native.Mathlib.Numerals.{add-one}
use native.Mathlib.Omega.{arith}
use native.Mathlib.Decide.{dec_lt}
use mathlib.Core.Path.{◌≡◌, refl, sym, ap, subst, ◌∙◌}
use mathlib.Core.Bool.{Bool, true, false}
use mathlib.Core.List.{List, [], ◌∷◌}
use lib.ListN.{length, get_or, take, drop, length-drop}
use lib.Seq.{drop-drop, length-take-le}
use Rattle.std.proofs.lemmas.List.{get_or-drop, get_or-take}
use Rattle.std.proofs.Math.Nat.{mul-suc, mul-zero, mul_comm, mul-div-le, mul-le-mul_left}
use Rattle.std.specs.Simd.{first_chunks}
use Rattle.lists.specs.Scan.{Clear, IsFirst}
use Rattle.lists.proofs.PartLaws.{tail_all}

-- the i-th of the chunks of n bytes
pub chunk-at : (n c i : ℕ) (l d : List ℕ) → i < c → get_or (first_chunks n c l) i d ≡ take n (drop (n * i) l)
chunk-at n zero i l d h = absurd (omega arith)
chunk-at n (suc c) zero l d h = ap (λ k. take n (drop k l)) (sym (mul-zero n))
chunk-at n (suc c) (suc i) l d h =
    chunk-at n c i (drop n l) d (omega arith)
    ∙ ap (take n) (drop-drop (n * i) n l ∙ ap (λ k. drop k l) (let e = mul-suc n i in let q : n + n * i ≡ n * suc i = omega arith in q))

-- they stand in the bytes
pub chunk-within : (n i : ℕ) (l : List ℕ) → i < length l / n → n * i + n ≤ length l
chunk-within n i l h =
    let s : suc i ≤ length l / n = omega arith in
    let e = mul-suc n i in
    omega (arith, e, mul-div-le (length l) n, mul-le-mul_left n s)

module _ (may : ℕ → Bool → Type 0) where
  pub clear-none : (l : List ℕ) → Clear may l 0
  clear-none l k h = absurd (omega arith)

  -- a byte more
  pub clear-more : (l : List ℕ) (n : ℕ) → Clear may l n → may (get_or l n 0) false → Clear may l (n + 1)
  clear-more l n c m k h = go (dec_lt k n)
    where
      go : Dec (k < n) → may (get_or l k 0) false
      go (yes y) = c k y
      go (no y) = let e : n ≡ k = omega (arith, y) in subst (λ i. may (get_or l i 0) false) e m

  -- some bytes more
  pub clear-behind : (l : List ℕ) (a n : ℕ) → Clear may l a → Clear may (drop a l) n → Clear may l (a + n)
  clear-behind l a n c d k h = go (dec_lt k a)
    where
      go : Dec (k < a) → may (get_or l k 0) false
      go (yes y) = c k y
      go (no y) =
          let e : a + (k - a) ≡ k = omega (arith, y) in
          let b : k - a < n = omega (arith, y) in
          subst (λ i. may (get_or l i 0) false) e (subst (λ x. may x false) (get_or-drop a l (k - a) 0) (d (k - a) b))

  pub first-behind : (l : List ℕ) (a n : ℕ) → a ≤ length l → Clear may l a → IsFirst may (drop a l) n → IsFirst may l (a + n)
  first-behind l a n h c f =
      record {
        within = omega (arith, f.within, length-drop a l);
        clear = clear-behind l a n c f.clear;
        there = λ w. subst (λ x. may x true) (get_or-drop a l n 0) (f.there (omega (arith, length-drop a l)));
      }

  -- in the front of the bytes
  pub clear-front : (l : List ℕ) (m n : ℕ) → n ≤ m → Clear may (take m l) n → Clear may l n
  clear-front l m n h c k w = subst (λ x. may x false) (get_or-take m l k 0 (omega arith)) (c k w)

  pub first-front : (l : List ℕ) (m n : ℕ) → n < m → m ≤ length l → IsFirst may (take m l) n → IsFirst may l n
  first-front l m n h g f =
      record {
        within = omega arith;
        clear = clear-front l m n (omega arith) f.clear;
        there = λ w. subst (λ x. may x true) (get_or-take m l n 0 h) (f.there (omega (arith, length-take-le m l g)));
      }

  -- there is one place
  pub one-first : ((b : ℕ) → may b true → may b false → ⊥) → (l : List ℕ) (m n : ℕ) → IsFirst may l m → IsFirst may l n → m ≡ n
  one-first u l m n f g = go (dec_lt m n) (dec_lt n m)
    where
      go : Dec (m < n) → Dec (n < m) → m ≡ n
      go (yes a) b = absurd (u (get_or l m 0) (f.there (omega (arith, g.within))) (g.clear m a))
      go (no a) (yes b) = absurd (u (get_or l n 0) (g.there (omega (arith, f.within))) (f.clear n b))
      go (no a) (no b) = omega (arith, a, b)

-- behind some bytes that are passed, as the code lends what is left
pub first-rest : {may : ℕ → Bool → Type 0} {l : List ℕ} {n : ℕ} (a : ℕ) → a ≤ length l → Clear may l a → IsFirst may (take (length l - a) (drop a l)) n → IsFirst may l (a + n)
first-rest {may} {l} {n} a h c f = first-behind may l a n h c (subst (λ b. IsFirst may b n) (tail_all a l) f)

-- the i-th of the chunks cs of n bytes: k is where the test first holds in it, or it holds of none
module _ (may : ℕ → Bool → Type 0) (l : List ℕ) (cs : List (List ℕ)) (d : List ℕ) (n i : ℕ) (e : cs ≡ first_chunks n (length l / n) l) (h : i < length l / n) (c : Clear may l (n * i)) where
  chunk-is : get_or cs i d ≡ take n (drop (n * i) l)
  chunk-is = ap (λ x. get_or x i d) e ∙ chunk-at n (length l / n) i l d h

  room : n ≤ length (drop (n * i) l)
  room = omega (arith, chunk-within n i l h, length-drop (n * i) l)

  pub chunk-first : (k : ℕ) → k < n → IsFirst may (get_or cs i d) k → IsFirst may l (n * i + k)
  chunk-first k w f =
      first-behind may l (n * i) k (omega (arith, chunk-within n i l h)) c
      (first-front may (drop (n * i) l) n k w room (subst (λ b. IsFirst may b k) chunk-is f))

  pub chunk-clear : (k : ℕ) → n ≤ k → Clear may (get_or cs i d) k → Clear may l (n * (i + 1))
  chunk-clear k w f =
      let q : n * i + n ≡ n * (i + 1) = sym (mul-suc n i) ∙ ap (λ k. n * k) (sym (add-one i)) in
      subst (Clear may l) q (clear-behind may l (n * i) n c (clear-front may (drop (n * i) l) n n (omega arith) (λ j v. subst (λ b. may (get_or b j 0) false) chunk-is (f j (omega arith)))))

-- behind a chunks of n bytes, which are all
pub rest-first : {may : ℕ → Bool → Type 0} {l rest : List ℕ} (n : ℕ) {i a k : ℕ} → rest ≡ drop (length l / n * n) l → a ≡ length l / n → a ≤ i → Clear may l (n * i) → IsFirst may rest k → IsFirst may l (n * a + k)
rest-first {may} {l} {rest} n {i} {a} {k} e q h c f =
    let z : length l / n * n ≡ n * a = mul_comm (length l / n) n ∙ ap (λ x. n * x) (sym q) in
    let w : n * a ≤ length l = omega (arith, mul-div-le (length l) n, ap (λ x. n * x) q) in
    first-behind may l (n * a) k w (λ j v. c j (omega (arith, mul-le-mul_left n h))) (subst (λ b. IsFirst may b k) (e ∙ ap (λ x. drop x l) z) f)

-- where a test first holds is how many bytes f counts before it, where f counts by the test
pub first-counted :
    {may : ℕ → Bool → Type 0} (f : List ℕ → ℕ) → f [] ≡ 0 → ((b : ℕ) (l : List ℕ) → may b true → f (b ∷ l) ≡ 0) → ((b : ℕ) (l : List ℕ) → may b false → f (b ∷ l) ≡ suc (f l))
    → (l : List ℕ) (n : ℕ) → IsFirst may l n → n ≡ f l
first-counted f none hit miss [] n g = omega (arith, g.within, none)
first-counted f none hit miss (b ∷ l) zero g = sym (hit b l (g.there (omega arith)))
first-counted {may} f none hit miss (b ∷ l) (suc n) g =
    let h : n ≤ length l = omega (arith, g.within) in
    let r : IsFirst may l n = record { within = h; clear = λ k w. g.clear (suc k) (omega arith); there = λ w. g.there (omega arith) } in
    ap suc (first-counted {may = may} f none hit miss l n r) ∙ sym (miss b l (g.clear 0 (omega arith)))
