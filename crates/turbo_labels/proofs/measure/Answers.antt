use Prim.Native.Nat.{ℕ, ◌-◌}
use native.Mathlib.Numerals.{add-one}
use native.Mathlib.Omega.{arith}
use mathlib.Core.Path.{refl, sym, ap, ◌∙◌}
use lib.ListN.{length, length-set}
use Rattle.turbo.specs.Split.{until, past, tail_at}
use Rattle.turbo.proofs.SplitLaws.{tail-zero, tail-past}
use Rattle.turbo_labels.proofs.ColumnLaws.{measured-next}
use Rattle.turbo_labels.proofs.measure.Goals as goal

pub loop-k-init : goal.loop-k-init
loop-k-init c = (refl, sym (tail-zero _), λ m h. absurd (omega arith))

pub loop-k-preserved : goal.loop-k-preserved
loop-k-preserved c =
    let l = c.loop-k in
    let labels = c.args.labels.now in
    let label = c.read_field.result.0.now in
    let f = c.read_field.ensures in (
      length-set l.sizes l.k (length label) ∙ l.invariant.0,
      f.tail ∙ ap (past 124) l.invariant.1 ∙ tail-past l.k labels ∙ ap (λ (i : ℕ). tail_at i labels) (sym (add-one l.k)),
      measured-next labels l.sizes l.k (length label) (omega (arith, l.invariant.0)) (ap length (f.field ∙ ap (until 124) l.invariant.1)) l.invariant.2,
    )

pub returns : goal.returns
returns c = λ m h. c.loop-k.invariant.2 m (omega (arith, c.loop-k.invariant.0))
