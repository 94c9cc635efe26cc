-- Updates taken if their rows fit: what is answered and left, and what an answer tells. Assumes nothing.
use mathlib.Core.Path.{◌≡◌, refl, sym, ap, ◌∙◌}
use mathlib.Core.Bool.{Bool, true, false}
use mathlib.Core.List.{List}
use Prim.Native.Nat.{ℕ, suc, ◌*◌, ◌≤◌}
use native.Mathlib.Nat.{le_trans, mul-le-mul_right}
use native.Mathlib.Omega.{arith}
use borrow.Author.Tests.{leb-true}
use lib.Dec.{leb}
use lib.ListN.{length}
use Rattle.lists.specs.Logic.{on}
use Rattle.lists.specs.Rows.{store}
use Rattle.passage.specs.Layout.{row_wide}
use Rattle.std.specs.Prelude.{Option, Some, None}
use Rattle.messages_take.specs.inner.Fitting.{fitting, fitting_in}

-- ---- taken, or too many

module _ (n most : ℕ) (rs : List (List ℕ)) (t : List ℕ) where
  -- what is answered, and what is left
  abbrev Fits : Option ℕ → List ℕ → Type 0
  Fits r t' = (r ≡ fitting most rs) × (t' ≡ fitting_in n most rs t)

  -- b: whether they are at most so many, as it was worked out
  module _ (b : Bool) (e : b ≡ leb (length rs) most) where
    pub fits-room : b ≡ true → most * row_wide ≤ length t → length rs * row_wide ≤ length t
    fits-room h k = le_trans (mul-le-mul_right row_wide (leb-true (length rs) most (sym e ∙ h))) k

    pub fits-yes : b ≡ true → (k : ℕ) (t' : List ℕ) → (k ≡ length rs) × (t' ≡ store row_wide n rs t) → Fits (Some k) t'
    unfolding fitting fitting_in
    fits-yes h k t' g = rw (sym e ∙ h) (ap Some g.0, g.1)

    pub fits-no : b ≡ false → Fits None t
    unfolding fitting fitting_in
    fits-no h = rw (sym e ∙ h) (refl, refl)

-- ---- what an answer tells

abbrev counted : Option ℕ → ℕ
counted (Some k) = suc k
counted None = 0

told : (b : Bool) (l : ℕ) → counted (on b (Some l) None) ≡ on b (suc l) 0
told true l = refl
told false l = refl

yes-told : (b : Bool) (l k : ℕ) → on b (suc l) 0 ≡ suc k → (b ≡ true) × (k ≡ l)
yes-told true l k e = (refl, omega arith)
yes-told false l k e = absurd (omega arith)

no-told : (b : Bool) (l : ℕ) → on b (suc l) 0 ≡ 0 → b ≡ false
no-told true l e = absurd (omega arith)
no-told false l e = refl

module _ (n most : ℕ) (rs : List (List ℕ)) (t : List ℕ) where
  told_is : counted (fitting most rs) ≡ on (leb (length rs) most) (suc (length rs)) 0
  unfolding fitting
  told_is = told (leb (length rs) most) (length rs)

  pub count-told : (k : ℕ) → fitting most rs ≡ Some k → (leb (length rs) most ≡ true) × (k ≡ length rs)
  count-told k e = yes-told (leb (length rs) most) (length rs) k (sym told_is ∙ ap counted e)

  pub too-many-told : fitting most rs ≡ None → leb (length rs) most ≡ false
  too-many-told e = no-told (leb (length rs) most) (length rs) (sym told_is ∙ ap counted e)

  pub in-yes : leb (length rs) most ≡ true → fitting_in n most rs t ≡ store row_wide n rs t
  unfolding fitting_in
  in-yes h = rw h

  pub in-no : leb (length rs) most ≡ false → fitting_in n most rs t ≡ t
  unfolding fitting_in
  in-no h = rw h
