use mathlib.Core.Path.{◌≡◌, ◌∙◌, ap}
use mathlib.Core.List.{List}
use Prim.Native.Nat.{ℕ, ◌+◌, ◌-◌}
use native.Mathlib.Omega.{arith}
use lib.ListN.{take, drop}
use Rattle.std.specs.Prelude.{Option}
use Rattle.field_types.specs.Digits.{numeral}
use Rattle.field_types.proofs.TripleLaws.{triple-length, triple-first, triple-second, triple-no-left, triple-no-middle, triple-no-right, triple-is}
use Rattle.field_types.proofs.read_triple.Goals as goal

pub returns-then-field-width : goal.returns-then-field-width
returns-then-field-width c = triple-length _ _ _ c.if-field-width.true

pub returns-then-field-width-2 : goal.returns-then-field-width-2
returns-then-field-width-2 c = triple-first _ _ _ c.if-field-width-2.true

pub returns-then-field-width-3 : goal.returns-then-field-width-3
returns-then-field-width-3 c = triple-second _ _ _ c.if-field-width-3.true

pub returns-in_err-a : goal.returns-in_err-a
returns-in_err-a c = c.from_residual.ensures ∙ triple-no-left _ _ _ c.in_err-a.ensures

-- two digits of the field that begin at i and end at j
two : {x : Option ℕ} (f : List ℕ) (i j : ℕ) → j - i ≡ 2 → x ≡ numeral 2 (take (j - i) (drop i f)) → x ≡ numeral 2 (take 2 (drop i f))
two f i j e r = r ∙ ap (λ (k : ℕ). numeral 2 (take k (drop i f))) e

pub returns-in_err-b : goal.returns-in_err-b
returns-in_err-b c =
    let f = c.args.field.now in
    let w = c.args.width in
    c.from_residual-in_err-b.ensures
    ∙ triple-no-middle _ _ _ _ c.in_ok-a.ensures (two f (w + 1) (w + 3) (omega arith) c.in_err-b.ensures)

pub returns-in_err-c : goal.returns-in_err-c
returns-in_err-c c =
    let f = c.args.field.now in
    let w = c.args.width in
    c.from_residual-in_err-c.ensures
    ∙ triple-no-right _ _ _ _ c.in_ok-a.ensures _ (two f (w + 1) (w + 3) (omega arith) c.in_ok-b.ensures)
    (two f (w + 4) (w + 6) (omega arith) c.in_err-c.ensures)

pub returns : goal.returns
returns c =
    let f = c.args.field.now in
    let w = c.args.width in
    triple-is _ _ _ _ c.in_ok-a.ensures _ (two f (w + 1) (w + 3) (omega arith) c.in_ok-b.ensures) _
    (two f (w + 4) (w + 6) (omega arith) c.in_ok-c.ensures)
    c.if-field-width.false
    c.if-field-width-2.false
    c.if-field-width-3.false
