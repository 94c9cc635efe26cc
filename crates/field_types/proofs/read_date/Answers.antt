use mathlib.Core.Path.{◌≡◌, ◌∙◌, ap, refl}
use mathlib.Core.Bool.{Bool, true, false}
use Prim.Native.Nat.{ℕ}
use native.Mathlib.Omega.{arith}
use Rattle.std.specs.Bool.{then_some}
use Rattle.field_types.specs.Dates.{real_of, date}
use Rattle.field_types.specs.Digits.{only_if}
use Rattle.field_types.proofs.TripleLaws.{triple-below}
use Rattle.field_types.proofs.read_date.Goals as goal
use Rattle.std.specs.Prelude.{Some}

pub returns-in_err-y : goal.returns-in_err-y
unfolding date
returns-in_err-y c = c.from_residual.ensures ∙ ap real_of c.in_err-y.ensures

pub overflow_mul-n : goal.overflow_mul-n
overflow_mul-n c = omega (arith, triple-below _ _ _ c.in_ok-y.ensures)

pub overflow_mul-n-2 : goal.overflow_mul-n-2
overflow_mul-n-2 c = omega (arith, triple-below _ _ _ c.in_ok-y.ensures)

pub overflow_add-n : goal.overflow_add-n
overflow_add-n c = omega (arith, triple-below _ _ _ c.in_ok-y.ensures)

pub overflow_add-n-2 : goal.overflow_add-n-2
overflow_add-n-2 c = omega (arith, triple-below _ _ _ c.in_ok-y.ensures)

-- a number where a test passes, as the code has it and as the rule does
only-then : (b : Bool) (n : ℕ) → then_some b n ≡ only_if b (Some n)
only-then true n = refl
only-then false n = refl

pub returns : goal.returns
unfolding date
returns c = c.then_some.ensures ∙ only-then _ _ ∙ rw c.is_date.ensures (ap real_of c.in_ok-y.ensures)
