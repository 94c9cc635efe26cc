use mathlib.Core.Path.{◌≡◌, ◌∙◌, sym, ap}
use Prim.Native.Nat.{ℕ, ◌<◌, ◌-◌, ◌+◌, ◌^◌, ◌*◌}
use native.Mathlib.Omega.{arith}
use lib.ListN.{length, get_or, drop}
use lib.Seq.{drop-length}
use Rattle.field_types.specs.Digits.{all_digits, value_from}
use Rattle.field_types.proofs.DigitLaws.{number-none, number-long, number-other, number_is, digits-stop, more-digits, nine-digits}
use Rattle.field_types.proofs.read_number.Goals as goal

pub returns-then-field-eq0 : goal.returns-then-field-eq0
returns-then-field-eq0 c = number-none _ c.args.field.now c.if-field-eq0.true

pub returns-then-most-field : goal.returns-then-most-field
returns-then-most-field c = number-long _ c.args.field.now c.if-most-field.true

pub returns-then-not-is_ascii_digit : goal.returns-then-not-is_ascii_digit
returns-then-not-is_ascii_digit c =
    let k = c.loop-b in
    let f = c.args.field.now in
    number-other _ f (k.invariant.1 ∙ digits-stop f k.b-index c.loop-b-test.true (sym c.if-not-is_ascii_digit.ensures.value))

pub overflow_mul-n : goal.overflow_mul-n
overflow_mul-n c =
    let k = c.loop-b in
    let b = get_or c.args.field.now k.b-index 0 in
    let digit = c.if-not-is_ascii_digit.ensures.cases in
    let below_next : k.n * 10 + (b - 48) < 10 ^ (k.b-index + 1) = more-digits _ _ _ k.invariant.0 (omega arith) in
    omega (arith, nine-digits _ _ below_next (omega arith))

pub overflow_add-n : goal.overflow_add-n
overflow_add-n c =
    let k = c.loop-b in
    let b = get_or c.args.field.now k.b-index 0 in
    let digit = c.if-not-is_ascii_digit.ensures.cases in
    let below_next : k.n * 10 + (b - 48) < 10 ^ (k.b-index + 1) = more-digits _ _ _ k.invariant.0 (omega arith) in
    omega (arith, nine-digits _ _ below_next (omega arith))

pub returns : goal.returns
returns c =
    let k = c.loop-b in
    let f = c.args.field.now in
    let e : k.b-index ≡ length f = omega arith in
    number_is _ f _ c.if-field-eq0.false c.if-most-field.false
    (k.invariant.1 ∙ ap (λ (i : ℕ). all_digits (drop i f)) e ∙ ap all_digits (drop-length f))
    (k.invariant.2 ∙ ap (λ (i : ℕ). value_from k.n (drop i f)) e ∙ ap (value_from k.n) (drop-length f))
