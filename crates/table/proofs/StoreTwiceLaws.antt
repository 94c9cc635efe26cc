-- Stores one after another are one store, where no row came and left in between. Assumes nothing.
use mathlib.Core.Path.{◌≡◌, refl, sym, ap, ◌∙◌}
use mathlib.Core.Bool.{Bool, true, false}
use mathlib.Core.Logic.{◌⊎◌, inl, inr, ⊎_elim}
use mathlib.Core.List.{List, ◌++◌, append_assoc, append-nil}
use Prim.Native.Nat.{ℕ, ◌+◌, ◌*◌, ◌-◌, ◌≤◌}
use native.Mathlib.Nat.{zero-mul, add-mul, mul-le-mul_right, le_of_lt}
use native.Mathlib.Omega.{arith}
use borrow.Author.Tests.{leb-true, leb-false}
use lib.Dec.{leb}
use lib.ListN.{length, replicate, length-append, length-replicate, replicate-append-replicate}
use Rattle.lists.specs.Rows.{flat, store, Wide}
use Rattle.lists.proofs.OverLaws.{onto-longer, onto-front}
use Rattle.lists.proofs.WideLaws.{length-flat}
use Rattle.lists.proofs.StoreLaws.{store-grows, store-shrinks}

either_way : (a b : ℕ) → (a ≤ b) ⊎ (b ≤ a)
either_way a b = go (leb a b) refl
  where
    go : (t : Bool) → leb a b ≡ t → (a ≤ b) ⊎ (b ≤ a)
    go true e = inl (leb-true a b e)
    go false e = inr (le_of_lt (leb-false a b e))

module _ (w n : ℕ) (rs qs : List (List ℕ)) (t : List ℕ) (hr : Wide w rs) (hq : Wide w qs) where
  abbrev Once : Type 0
  Once = store w (length rs) qs (store w n rs t) ≡ store w n qs t

  -- the bytes of rs and of the places that they left, up to m rows
  filled : (m : ℕ) → length rs ≤ m → length (flat rs ++ replicate {A = ℕ} ((m - length rs) * w) 0) ≡ m * w
  filled m h =
      let e : length rs + (m - length rs) ≡ m = omega arith in
      length-append (flat rs) (replicate ((m - length rs) * w) 0)
      ∙ rw (length-flat w rs hr, length-replicate) (sym (add-mul (length rs) (m - length rs) w) ∙ ap (λ (k : ℕ). k * w) e)

  -- rows that left and came again, as many as there were or more
  over-all : length rs ≤ n → n ≤ length qs → Once
  unfolding store
  over-all a b =
      let y : length rs - length qs ≡ 0 = omega arith in
      let z : n - length qs ≡ 0 = omega arith in
      let l : length (flat rs ++ replicate {A = ℕ} ((n - length rs) * w) 0) ≤ length (flat qs) = rw (filled n a, length-flat w qs hq) (mul-le-mul_right w b) in
      rw (y, z, zero-mul, append-nil (flat qs)) (onto-longer (flat rs ++ replicate ((n - length rs) * w) 0) (flat qs) t l)

  -- rows that left and came again, as many as there were or less
  over-some : length rs ≤ length qs → length qs ≤ n → Once
  unfolding store
  over-some a b =
      let p = (length qs - length rs) * w in
      let q = (n - length qs) * w in
      let y : length rs - length qs ≡ 0 = omega arith in
      let m : (n - length rs) * w ≡ p + q =
      let e : n - length rs ≡ (length qs - length rs) + (n - length qs) = omega arith in
      ap (λ (k : ℕ). k * w) e ∙ add-mul (length qs - length rs) (n - length qs) w in
      let f : flat rs ++ replicate {A = ℕ} ((n - length rs) * w) 0 ≡ (flat rs ++ replicate p 0) ++ replicate q 0 =
      ap (λ (k : ℕ). flat rs ++ replicate k 0) m
      ∙ ap (λ (k : List ℕ). flat rs ++ k) (sym (replicate-append-replicate {A = ℕ} p q 0)) ∙ sym (append_assoc (flat rs) (replicate p 0) (replicate q 0)) in
      let l : length (flat rs ++ replicate {A = ℕ} p 0) ≡ length (flat qs) = filled (length qs) a ∙ sym (length-flat w qs hq) in
      rw (y, zero-mul, append-nil (flat qs), f) (onto-front (flat rs ++ replicate p 0) (flat qs) (replicate q 0) t l)

  -- where rows only come, whatever left before
  pub store-comes : length rs ≤ length qs → Once
  store-comes h =
      ⊎_elim
      (λ a. store-grows w n rs qs t hr hq a h)
      (λ a. ⊎_elim (λ b. over-all a b) (λ b. over-some h b) (either_way n (length qs)))
      (either_way n (length rs))

  -- where no row came before
  pub store-leaves : length rs ≤ n → Once
  store-leaves h = ⊎_elim (λ a. store-comes a) (λ a. store-shrinks w n rs qs t hr hq a h) (either_way (length rs) (length qs))
