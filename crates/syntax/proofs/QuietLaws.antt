use Prim.Native.Nat.{ℕ, zero, suc, ◌+◌, ◌-◌, ◌≤◌, ◌<◌}
use native.Mathlib.Numerals.{add-one}
use native.Mathlib.Omega.{arith}
use mathlib.Core.Path.{◌≡◌, refl, ap, subst, ◌∙◌}
use mathlib.Core.Bool.{Bool, true, false}
use mathlib.Core.List.{List, [], ◌∷◌}
use borrow.Author.Tests.{eqb-false, ltb-false, lt-ltb, le-ltb}
use lib.ListN.{length, get_or, take, drop, drop_of_length-le, length-drop}
use lib.Seq.{drop-cons, drop-drop}
use lib.Dec.{eqb, ltb}
use Rattle.lists.specs.Logic.{on}
use Rattle.lists.specs.Scan.{IsFirst}
use Rattle.lists.proofs.LogicLaws.{or-fail}
use Rattle.lists.proofs.PartLaws.{tail_all}
use Rattle.syntax.specs.inner.Quiet.{loud, quiet_for}

-- What the loops over quiet bytes cite: which bytes are loud, and how far the quiet ones go. Assumes nothing.

-- which bytes are loud
pub loud-low : (b : ℕ) → b < 32 → true ≡ loud b
unfolding loud
loud-low b h = rw (lt-ltb b 32 h)

pub loud-high : (b : ℕ) → 32 ≤ b → eqb b 92 ≡ loud b
unfolding loud
loud-high b h = rw (le-ltb b 32 h)

pub not-loud : (b : ℕ) → loud b ≡ false → (32 ≤ b) × (b ≡ 92 → ⊥)
unfolding loud
not-loud b e = let p = or-fail (ltb b 32) (eqb b 92) e in (ltb-false _ _ p.0, eqb-false _ _ p.1)

-- how far the quiet bytes go from i on
module _ (d : List ℕ) (i : ℕ) where
  pub quiet-here : i < length d → loud (get_or d i 0) ≡ false → quiet_for (drop i d) ≡ suc (quiet_for (drop (i + 1) d))
  unfolding quiet_for
  quiet-here h e = rw (add-one, drop-cons d i 0 h) (rw e)

  pub loud-here : i < length d → loud (get_or d i 0) ≡ true → quiet_for (drop i d) ≡ 0
  unfolding quiet_for
  loud-here h e = rw (drop-cons d i 0 h) (rw e)

  pub quiet_none : length d ≤ i → quiet_for (drop i d) ≡ 0
  unfolding quiet_for
  quiet_none h = rw (drop_of_length-le d h)

quiet-drop : (n : ℕ) (l : List ℕ) → n ≤ quiet_for l → quiet_for l ≡ n + quiet_for (drop n l)
unfolding quiet_for
quiet-drop zero l h = omega arith
quiet-drop (suc n) [] h = absurd (omega arith)
quiet-drop (suc n) (b ∷ l) h = go (loud b) h (quiet-drop n l)
  where
    go : (t : Bool) → suc n ≤ on t 0 (suc (quiet_for l)) → (n ≤ quiet_for l → quiet_for l ≡ n + quiet_for (drop n l)) → on t 0 (suc (quiet_for l)) ≡ suc n + quiet_for (drop n l)
    go true g f = absurd (omega arith)
    go false g f = let e : quiet_for l ≡ n + quiet_for (drop n l) = f (omega arith) in omega arith

quiet-length : (l : List ℕ) → quiet_for l ≤ length l
unfolding quiet_for
quiet-length [] = omega arith
quiet-length (b ∷ l) = go (loud b) (quiet-length l)
  where
    go : (t : Bool) → quiet_for l ≤ length l → on t 0 (suc (quiet_for l)) ≤ suc (length l)
    go true h = omega arith
    go false h = omega arith

module _ (d : List ℕ) (i : ℕ) where
  pub quiet-skip : (n : ℕ) → n ≤ quiet_for (drop i d) → quiet_for (drop i d) ≡ n + quiet_for (drop (i + n) d)
  quiet-skip n h = quiet-drop n (drop i d) h ∙ ap (λ (l : List ℕ). n + quiet_for l) (drop-drop n i d)

  -- one quiet byte more behind n of them
  pub quiet-more : (n : ℕ) → i + n < length d → n ≤ quiet_for (drop i d) → loud (get_or d (i + n) 0) ≡ false → n + 1 ≤ quiet_for (drop i d)
  quiet-more n h k e = omega (arith, quiet-skip n k, quiet-here d (i + n) h e)

  pub quiet-within : i ≤ length d → i + quiet_for (drop i d) ≤ length d
  quiet-within h = omega (arith, quiet-length (drop i d), length-drop i d)

  -- the byte where the quiet ones end is loud
  pub quiet-stop : i + quiet_for (drop i d) < length d → loud (get_or d (i + quiet_for (drop i d)) 0) ≡ true
  quiet-stop h = go (loud (get_or d (i + quiet_for (drop i d)) 0)) refl
    where
      go : (t : Bool) → loud (get_or d (i + quiet_for (drop i d)) 0) ≡ t → t ≡ true
      go true e = refl
      go false e = absurd (omega (arith, quiet-more (quiet_for (drop i d)) h (omega arith) e))

-- where the first loud byte stands
by-bytes : (l : List ℕ) (n : ℕ) → n ≤ length l → ((k : ℕ) → k < n → loud (get_or l k 0) ≡ false) → (n < length l → loud (get_or l n 0) ≡ true) → n ≡ quiet_for l
unfolding quiet_for
by-bytes [] n h c t = omega arith
by-bytes (b ∷ l) zero h c t = rw (t (omega arith)) refl
by-bytes (b ∷ l) (suc n) h c t = rw (c 0 (omega arith)) (ap suc (by-bytes l n (omega arith) (λ k w. c (suc k) (omega arith)) (λ w. t (omega arith))))

-- where a test first holds that tells loud bytes, from i on
pub first-quiet : {may : ℕ → Bool → Type 0} {n : ℕ} (d : List ℕ) (i : ℕ) → IsFirst may (take (length d - i) (drop i d)) n → ((b : ℕ) → may b false → loud b ≡ false) → ((b : ℕ) → may b true → loud b ≡ true) → n ≡ quiet_for (drop i d)
first-quiet {may} {n} d i f quiet noisy = go (drop i d) (subst (λ l. IsFirst may l n) (tail_all i d) f)
  where
    go : (l : List ℕ) → IsFirst may l n → n ≡ quiet_for l
    go l g = by-bytes l n g.within (λ k w. quiet (get_or l k 0) (g.clear k w)) (λ w. noisy (get_or l n 0) (g.there w))
