use Prim.Native.Nat.{ℕ, ◌-◌, ◌+◌, ◌<◌, ◌≤◌}
use native.Mathlib.Omega.{arith}
use native.Mathlib.Numerals.{add-one}
use mathlib.Core.Path.{◌≡◌, refl, sym, ap, ◌∙◌}
use lib.ListN.{length, drop, length-set}
use Rattle.turbo.specs.Split.{until, past, fields, tail_at}
use Rattle.turbo.proofs.SplitLaws.{tail-zero, tail-past}
use Rattle.turbo_labels.specs.Columns.{place_of}
use Rattle.turbo_labels.proofs.ColumnLaws.{refused, fields-at, fields-end, columns_from, columns-start, name-next, name-twice, names-end}
use Rattle.turbo_labels.proofs.search_columns.Goals as goal

pub loop-i-init : goal.loop-i-init
loop-i-init c = (refl, sym (tail-zero _), columns-start _ _)

pub returns-in_err-places : goal.returns-in_err-places
returns-in_err-places c =
    let l = c.loop-i in
    let wanted = c.args.wanted.now in
    let labels = fields c.args.labels.now in
    let h : l.i < length (fields wanted) = omega (arith, c.count_fields-i-end.ensures) in
    let e = c.read_field.ensures.field ∙ ap (until 124) l.invariant.1 in
    let q = sym (c.place_of.ensures ∙ ap (λ n. place_of n labels) e) ∙ c.in_err-places.was in
    refused _ c.from_residual.ensures.0
    ∙ sym (name-twice l.i (until 124 (tail_at l.i wanted)) (drop (l.i + 1) (fields wanted)) labels l.places _ q)
    ∙ sym (ap (λ ws. columns_from l.i ws labels l.places) (fields-at wanted l.i h))
    ∙ l.invariant.2

pub loop-i-preserved : goal.loop-i-preserved
loop-i-preserved c =
    let l = c.loop-i in
    let wanted = c.args.wanted.now in
    let labels = fields c.args.labels.now in
    let place = c.in_ok-places.field-0 in
    let h : l.i < length (fields wanted) = omega (arith, c.count_fields-i-end.ensures) in
    let e = c.read_field.ensures.field ∙ ap (until 124) l.invariant.1 in
    let q = sym (c.place_of.ensures ∙ ap (λ n. place_of n labels) e) ∙ c.in_ok-places.was in (
      length-set l.places l.i place ∙ l.invariant.0,
      c.read_field.ensures.tail ∙ ap (past 124) l.invariant.1 ∙ tail-past l.i wanted ∙ ap (λ n. tail_at n wanted) (sym (add-one l.i)),
      sym (name-next l.i (until 124 (tail_at l.i wanted)) (drop (l.i + 1) (fields wanted)) labels l.places place q)
          ∙ sym (ap (λ ws. columns_from l.i ws labels l.places) (fields-at wanted l.i h))
          ∙ l.invariant.2,
    )

pub returns : goal.returns
returns c =
    let l = c.loop-i in
    let labels = fields c.args.labels.now in
    let h : length (fields c.args.wanted.now) ≤ l.i = omega (arith, c.count_fields-i-end.ensures) in
    sym (names-end l.i labels l.places) ∙ sym (ap (λ ws. columns_from l.i ws labels l.places) (fields-end c.args.wanted.now l.i h)) ∙ l.invariant.2
