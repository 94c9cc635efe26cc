-- A byte set inside a write, and parts that a set byte is outside of. Assumes nothing.
use mathlib.Core.Path.{◌≡◌, refl, ap, ◌∙◌}
use mathlib.Core.List.{List, [], ◌∷◌}
use Prim.Native.Nat.{ℕ, zero, suc, ◌+◌, ◌-◌, ◌≤◌, ◌<◌}
use native.Mathlib.Nat.{zero-add, suc-add, le_of_suc-le-suc, not-suc-le-zero}
use native.Mathlib.Omega.{arith}
use lib.ListN.{length, take, drop, set}
use lib.Seq.{take-set-le, drop-set-lt, drop-set-add}
use Rattle.lists.specs.Part.{part, onto, over}

onto-set : (i v : ℕ) (r d : List ℕ) → i < length r → set (onto r d) i v ≡ onto (set r i v) d
unfolding onto
onto-set i v [] d h = absurd (not-suc-le-zero h)
onto-set zero v (x ∷ r) [] h = refl
onto-set (suc i) v (x ∷ r) [] h = refl
onto-set zero v (x ∷ r) (y ∷ d) h = refl
onto-set (suc i) v (x ∷ r) (y ∷ d) h = ap (λ (l : List ℕ). x ∷ l) (onto-set i v r d (le_of_suc-le-suc h))

-- a byte set in what was written could have been set before
pub over-set : (at i v : ℕ) (r d : List ℕ) → i < length r → set (over at r d) (at + i) v ≡ over at (set r i v) d
unfolding over
over-set zero i v r d h = rw zero-add (onto-set i v r d h)
over-set (suc at) i v r [] h = refl
over-set (suc at) i v r (y ∷ d) h = rw suc-add (ap (λ (l : List ℕ). y ∷ l) (over-set at i v r d h))

module _ (off n i v : ℕ) (l : List ℕ) where
  pub part-behind-set : i < off → part off n (set l i v) ≡ part off n l
  unfolding part
  part-behind-set h = ap (take n) (drop-set-lt off l i v h)

  pub part-before-set : off + n ≤ i → part off n (set l i v) ≡ part off n l
  unfolding part
  part-before-set h =
      let e : i ≡ off + (i - off) = omega arith in
      let d : drop off (set l i v) ≡ set (drop off l) (i - off) v = ap (λ (k : ℕ). drop off (set l k v)) e ∙ drop-set-add off l (i - off) v in
      ap (take n) d ∙ take-set-le n (drop off l) (i - off) v (omega arith)
