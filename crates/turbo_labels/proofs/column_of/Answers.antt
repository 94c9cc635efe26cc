use Prim.Native.Nat.{ℕ, ◌<◌}
use native.Mathlib.Omega.{arith}
use mathlib.Core.Path.{sym, ap, ◌∙◌}
use mathlib.Core.List.{List}
use lib.ListN.{length}
use Rattle.lists.specs.Text.{same}
use Rattle.turbo.specs.Split.{until, fields}
use Rattle.turbo.proofs.SplitLaws.{until-le}
use Rattle.turbo_labels.specs.Columns.{column_of}
use Rattle.turbo_labels.proofs.ColumnLaws.{past-less, place-first, place-last, place-more}
use Rattle.turbo_labels.proofs.column_of.Goals as goal

pub loop-column-init : goal.loop-column-init
loop-column-init c = (omega arith, omega arith)

pub returns-then-same_bytes : goal.returns-then-same_bytes
returns-then-same_bytes c =
    let l = c.loop-column in
    let s = sym (ap (λ f. same f c.args.name.now) c.read_field.ensures.field) ∙ sym c.same_bytes.ensures ∙ c.if-same_bytes.true in
    omega (arith, l.invariant.1, place-first c.args.name.now l.rest.now s)

pub returns-then-is_last : goal.returns-then-is_last
returns-then-is_last c =
    let l = c.loop-column in
    let s = sym (ap (λ f. same f c.args.name.now) c.read_field.ensures.field) ∙ sym c.same_bytes.ensures ∙ c.if-same_bytes.false in
    omega (arith, l.invariant.1, place-last c.args.name.now l.rest.now (omega (arith, ap (λ (f : List ℕ). length f) c.read_field.ensures.field, c.if-is_last.true)) s)

pub loop-column-preserved : goal.loop-column-preserved
loop-column-preserved c =
    let l = c.loop-column in
    let s = sym (ap (λ f. same f c.args.name.now) c.read_field.ensures.field) ∙ sym c.same_bytes.ensures ∙ c.if-same_bytes.false in
    let e = ap (λ (f : List ℕ). length f) c.read_field.ensures.field in
    let t = c.read_field.ensures.tail in
    let h : length (until 124 l.rest.now) < length l.rest.now = omega (arith, e, until-le 124 l.rest.now, c.if-is_last.false) in (
      omega (arith, l.invariant.0, ap (λ (f : List ℕ). length f) t, past-less l.rest.now h),
      omega (arith, l.invariant.1, ap (λ (f : List ℕ). column_of c.args.name.now (fields f)) t, place-more c.args.name.now l.rest.now h s),
    )

pub returns : goal.returns
returns c = absurd (let i = c.loop-column.invariant.0 in omega arith)
