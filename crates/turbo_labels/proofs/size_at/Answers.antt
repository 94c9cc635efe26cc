use Prim.Native.Nat.{◌-◌}
use native.Mathlib.Omega.{arith}
use Rattle.turbo.proofs.SplitLaws.{until-le}
use Rattle.turbo_labels.proofs.size_at.Goals as goal

pub returns-then-k-sizes : goal.returns-then-k-sizes
returns-then-k-sizes c =
    let e = c.requires (omega arith) in
    record { is = e; within = omega (arith, e, until-le 124 c.args.l.now) }

pub returns : goal.returns
returns c = c.find.ensures
