-- The unfinished line in its room: what is held of it, zeros behind, and the front that is read. Assumes nothing.
use Prim.Native.Nat.{ℕ, zero, suc, ◌+◌, ◌-◌, ◌≤◌}
use native.Mathlib.Omega.{arith}
use mathlib.Core.Path.{◌≡◌, refl, sym, ap, ◌∙◌}
use mathlib.Core.Bool.{Bool, true, false}
use mathlib.Core.List.{List, [], ◌∷◌, ◌++◌, append-nil}
use borrow.Author.Tests.{ltb-true, ltb-false}
use lib.Dec.{ltb}
use lib.ListN.{length, take, drop, replicate, length-append, length-replicate}
use lib.Seq.{length-take-le, take_all, take-append-le}
use Rattle.lists.specs.Logic.{on}
use Rattle.lists.specs.Part.{onto, over}
use Rattle.lists.proofs.OverLaws.{over-then, over-front, onto-fits, onto-split}

-- ---- writes that fill or pass the end

pub full : (vs d : List ℕ) → length vs ≡ length d → onto vs d ≡ vs
unfolding onto
full [] [] h = refl
full [] (x ∷ d) h = absurd (omega arith)
full (v ∷ vs) [] h = absurd (omega arith)
full (v ∷ vs) (x ∷ d) h = ap (λ (r : List ℕ). v ∷ r) (full vs d (omega arith))

clipped : (vs d : List ℕ) → length d ≤ length vs → onto vs d ≡ take (length d) vs
unfolding onto
clipped [] [] h = refl
clipped [] (x ∷ d) h = absurd (omega arith)
clipped (v ∷ vs) [] h = refl
clipped (v ∷ vs) (x ∷ d) h = ap (λ (r : List ℕ). v ∷ r) (clipped vs d (omega arith))

beyond : (at : ℕ) (vs d : List ℕ) → length d ≤ at → over at vs d ≡ d
unfolding over onto
beyond zero [] [] h = refl
beyond zero (v ∷ vs) [] h = refl
beyond zero vs (x ∷ d) h = absurd (omega arith)
beyond (suc at) vs [] h = refl
beyond (suc at) vs (x ∷ d) h = ap (λ (r : List ℕ). x ∷ r) (beyond at vs d (omega arith))

drop-zeros : (n m : ℕ) → drop n (replicate {A = ℕ} m 0) ≡ replicate (m - n) 0
drop-zeros zero m = let e : m ≡ m - 0 = omega arith in ap (λ (k : ℕ). replicate {A = ℕ} k 0) e
drop-zeros (suc n) zero = let e : 0 ≡ 0 - suc n = omega arith in ap (λ (k : ℕ). replicate {A = ℕ} k 0) e
drop-zeros (suc n) (suc m) = let e : m - n ≡ suc m - suc n = omega arith in drop-zeros n m ∙ ap (λ (k : ℕ). replicate {A = ℕ} k 0) e

pub front-front : (i k : ℕ) (l : List ℕ) → i ≤ k → take i (take k l) ≡ take i l
front-front zero k l h = refl
front-front (suc i) zero l h = absurd (omega arith)
front-front (suc i) (suc k) [] h = refl
front-front (suc i) (suc k) (x ∷ l) h = ap (λ (r : List ℕ). x ∷ r) (front-front i k l (omega arith))

-- ---- a front that is kept, and a write behind it

-- a room of zeros with the first n bytes of l, then the bytes t
front-then : (n : ℕ) (t l z : List ℕ) → n ≤ length l → over n t (over 0 (take n l) z) ≡ onto (take n l ++ t) z
unfolding over
front-then n t l z h =
    let e : n ≡ 0 + length (take n l) = omega (arith, length-take-le n l h) in
    ap (λ (k : ℕ). over k t (over 0 (take n l) z)) e ∙ over-then 0 (take n l) t z

front_length : (n : ℕ) (t l : List ℕ) → n ≤ length l → length (take n l ++ t) ≡ n + length t
front_length n t l h = length-append (take n l) t ∙ ap (λ (k : ℕ). k + length t) (length-take-le n l h)

front_of : (j : ℕ) (xs d : List ℕ) → length xs ≤ length d → j ≤ length xs → take j (onto xs d) ≡ take j xs
front_of j xs d h k = ap (take j) (onto-fits xs d h) ∙ take-append-le j xs (drop (length xs) d) k

-- what is read of the held bytes is what stands in the lent line once the bytes t are written behind them
module _ (n j : ℕ) (t l z : List ℕ) (same : length l ≡ length z) (room : n + length t ≤ length l) (within : j ≤ n + length t) where
  long : length (take n l ++ t) ≡ n + length t
  long = front_length n t l (omega arith)

  pub read_held : take j (over n t (over 0 (take n l) z)) ≡ take j (take n l ++ t)
  read_held = ap (take j) (front-then n t l z (omega arith)) ∙ front_of j (take n l ++ t) z (omega (arith, long)) (omega (arith, long))

  pub read-lent : take j (over n t l) ≡ take j (take n l ++ t)
  read-lent = ap (take j) (over-front n t l (omega arith)) ∙ front_of j (take n l ++ t) l (omega (arith, long)) (omega (arith, long))

-- ---- what is held at the end of a part

-- a line that fills its room stays
pub hold-none : (n : ℕ) (t l z : List ℕ) → length l ≡ length z → length l ≤ n → l ≡ over n t (over 0 (take n l) z)
unfolding over
hold-none n t l z e h =
    sym (ap (λ (r : List ℕ). over n t (onto r z)) (take_all n l h) ∙ ap (over n t) (full l z e) ∙ beyond n t l h)

module _ (n m : ℕ) (t l : List ℕ) (e : length l ≡ m) (h : n ≤ m) where
  room-length : length (replicate {A = ℕ} m 0) ≡ m
  room-length = length-replicate m 0

  first-length : length (take n l) ≡ n
  first-length = length-take-le n l (omega arith)

  -- as the rule has it
  ruled : over n t (over 0 (take n l) (replicate m 0)) ≡ take n l ++ onto t (replicate (m - n) 0)
  ruled =
      front-then n t l (replicate m 0) (omega arith)
      ∙ onto-split (take n l) t (replicate m 0) (omega (arith, room-length, first-length))
      ∙ ap (λ (k : ℕ). take n l ++ onto t (drop k (replicate m 0))) first-length
      ∙ ap (λ (r : List ℕ). take n l ++ onto t r) (drop-zeros n m)

  -- as the code has it, k bytes of t fitting
  coded : (k : ℕ) → k ≤ length t → n + k ≤ m → over (n + k) (replicate (m - (n + k)) 0) (over n (take k t) l) ≡ take n l ++ (take k t ++ replicate (m - (n + k)) 0)
  coded k a b =
      let x : length (take k t) ≡ k = length-take-le k t a in
      let y : length (replicate {A = ℕ} (m - (n + k)) 0) ≡ m - (n + k) = length-replicate (m - (n + k)) 0 in
      let z : length (take k t ++ replicate (m - (n + k)) 0) ≡ m - n = length-append (take k t) (replicate (m - (n + k)) 0) ∙ omega (arith, x, y) in
      ap (λ (i : ℕ). over (n + i) (replicate (m - (n + k)) 0) (over n (take k t) l)) (sym x)
      ∙ over-then n (take k t) (replicate (m - (n + k)) 0) l
      ∙ over-front n (take k t ++ replicate (m - (n + k)) 0) l (omega arith)
      ∙ full (take n l ++ (take k t ++ replicate (m - (n + k)) 0)) l (length-append (take n l) (take k t ++ replicate (m - (n + k)) 0) ∙ omega (arith, first-length, z))

  filled : (k : ℕ) → k ≡ on (ltb (m - n) (length t)) (m - n) (length t) → (k ≤ length t) × (n + k ≤ m) × (onto t (replicate (m - n) 0) ≡ take k t ++ replicate (m - (n + k)) 0)
  filled k q = go (ltb (m - n) (length t)) refl q
    where
      go : (b : Bool) → ltb (m - n) (length t) ≡ b → k ≡ on b (m - n) (length t) → (k ≤ length t) × (n + k ≤ m) × (onto t (replicate (m - n) 0) ≡ take k t ++ replicate (m - (n + k)) 0)
      go true f p =
          let a = ltb-true (m - n) (length t) f in
          let x : length (replicate {A = ℕ} (m - n) 0) ≡ m - n = length-replicate (m - n) 0 in
          let y : length (replicate {A = ℕ} (m - n) 0) ≡ k = x ∙ sym p in
          let c : 0 ≡ m - (n + k) = omega arith in (
            omega arith,
            omega arith,
            clipped t (replicate (m - n) 0) (omega (arith, x)) ∙ ap (λ (i : ℕ). take i t) y ∙ sym (append-nil (take k t)) ∙ ap (λ (i : ℕ). take k t ++ replicate i 0) c,
          )
      go false f p =
          let a = ltb-false (m - n) (length t) f in
          let x : length (replicate {A = ℕ} (m - n) 0) ≡ m - n = length-replicate (m - n) 0 in
          let c : m - n - length t ≡ m - (n + k) = omega arith in (
            omega arith,
            omega arith,
            onto-fits t (replicate (m - n) 0) (omega (arith, x))
                ∙ ap (λ (r : List ℕ). t ++ r) (drop-zeros (length t) (m - n) ∙ ap (λ (i : ℕ). replicate i 0) c)
                ∙ ap (λ (r : List ℕ). r ++ replicate (m - (n + k)) 0) (sym (take_all k t (omega arith))),
          )

  pub hold-is : (k : ℕ) → k ≡ on (ltb (m - n) (length t)) (m - n) (length t)
      → over (n + k) (replicate (m - (n + k)) 0) (over n (take k t) l) ≡ over n t (over 0 (take n l) (replicate m 0))
  hold-is k q = let f = filled k q in coded k f.0 f.1 ∙ ap (λ (r : List ℕ). take n l ++ r) (sym f.2) ∙ sym ruled

-- how much of a rest fits
pub fit-most : (a n k : ℕ) → k ≡ on (ltb a n) a n → (k ≤ n) × (k ≤ a)
fit-most a n k = go (ltb a n) refl
  where
    go : (b : Bool) → ltb a n ≡ b → k ≡ on b a n → (k ≤ n) × (k ≤ a)
    go true e q = let x = ltb-true a n e in (omega arith, omega arith)
    go false e q = let x = ltb-false a n e in (omega arith, omega arith)
