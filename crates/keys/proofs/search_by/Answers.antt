use mathlib.Core.Path.{sym}
use Prim.Native.Nat.{ℕ, ◌+◌, ◌-◌, ◌/◌}
use native.Mathlib.Omega.{arith}
use Rattle.std.specs.declared.cmp.Ordering.TheVariants.{Less, Equal, Greater}
use Rattle.keys.proofs.FindLaws.{seek-start, seek-end, seek-here, seek-up, seek-down}
use Rattle.keys.proofs.search_by.Goals as goal

pub loop-lo-init : goal.loop-lo-init
loop-lo-init g c = (omega arith, λ k rs e h p. rw e at (seek-start rs k h))

pub loop-lo-preserved-in-Less : goal.loop-lo-preserved-in-Less
loop-lo-preserved-in-Less g c =
    let l = c.loop-lo in
    let mid : ℕ = l.lo + (l.hi - l.lo) / 2 in
    (l.invariant.0, λ k rs e h p. seek-up rs k l.lo mid l.hi (l.invariant.1 k rs e h p) (omega arith) (omega arith) (sym (p mid Less (omega (arith, e)) c.in-Less.ensures)))

pub returns-in-Equal : goal.returns-in-Equal
returns-in-Equal g c =
    let l = c.loop-lo in
    let mid : ℕ = l.lo + (l.hi - l.lo) / 2 in
    λ k rs e h p. seek-here rs k l.lo mid l.hi (l.invariant.1 k rs e h p) (omega arith) (omega arith) (sym (p mid Equal (omega (arith, e)) c.in-Equal.ensures))

pub loop-lo-preserved : goal.loop-lo-preserved
loop-lo-preserved g c =
    let l = c.loop-lo in
    let mid : ℕ = l.lo + (l.hi - l.lo) / 2 in
    (omega arith, λ k rs e h p. seek-down rs k l.lo mid l.hi (l.invariant.1 k rs e h p) (omega arith) (omega arith) (sym (p mid Greater (omega (arith, e)) c.in-Greater.ensures)))

pub returns : goal.returns
returns g c = λ k rs e h p. seek-end rs k c.loop-lo.lo c.loop-lo.hi (c.loop-lo.invariant.1 k rs e h p) c.loop-lo-test.false
