-- The first validity that begins with the bytes sought, validity by validity. Assumes nothing.
use Prim.Native.Nat.{ℕ, ◌+◌, ◌*◌, ◌-◌, ◌≤◌, ◌<◌}
use native.Mathlib.Omega.{arith}
use native.Mathlib.Nat.{add-zero}
use mathlib.Core.Path.{◌≡◌, ap, ◌∙◌}
use mathlib.Core.Bool.{true, false}
use mathlib.Core.List.{List}
use Rattle.lists.specs.Text.{same}
use Rattle.lists.specs.Part.{part}
use Rattle.lists.specs.Rows.{rows_of}
use Rattle.lists.proofs.PartLaws.{part-part}
use Rattle.lists.proofs.RowLaws.{rows_of-step, window}
use Rattle.reader.specs.Passes.{validity_wide}
use Rattle.plan.specs.inner.Look.{shared_wide, first_with}

module _ (shared vs : List ℕ) (n i : ℕ) where
  -- what a validity begins with, in its row
  begins : part 0 shared_wide (part (i * validity_wide) validity_wide vs) ≡ part (i * validity_wide) shared_wide vs
  begins = part-part 0 shared_wide (i * validity_wide) validity_wide vs (omega arith) ∙ ap (λ (k : ℕ). part k shared_wide vs) (add-zero (i * validity_wide))

  pub first-here : i < n → same shared (part (i * validity_wide) shared_wide vs) ≡ true → i ≡ i + first_with shared (window validity_wide i n vs)
  unfolding first_with
  first-here h e = rw (rows_of-step validity_wide n i vs h, begins, e) (omega arith)

  pub first-later : i < n → same shared (part (i * validity_wide) shared_wide vs) ≡ false → i + 1 + first_with shared (window validity_wide (i + 1) n vs) ≡ i + first_with shared (window validity_wide i n vs)
  unfolding first_with
  first-later h e = rw (rows_of-step validity_wide n i vs h, begins, e) (omega arith)

  pub first-none : i ≤ n → n ≤ i → n ≡ i + first_with shared (window validity_wide i n vs)
  unfolding first_with rows_of
  first-none h k = let e : n - i ≡ 0 = omega arith in rw e (omega arith)
