use Prim.Native.Nat.{◌-◌}
use native.Mathlib.Omega.{arith}
use lib.ListN.{length-set}
use Rattle.feeds.proofs.KeptLaws.{places-start, places-turn, places-done}
use Rattle.feeds.proofs.places_in.Goals as goal

pub loop-i-init : goal.loop-i-init
loop-i-init c = (omega arith, omega arith, omega arith, places-start _)

pub loop-i-preserved : goal.loop-i-preserved
loop-i-preserved c =
    let l = c.loop-i in
    let a = c.args in
    (omega arith, l.invariant.1, simp length-set l.invariant.2, places-turn l.i a.kept l.places l.invariant.3 (omega arith))

pub returns : goal.returns
returns c =
    let l = c.loop-i in
    places-done l.i c.args.kept l.places l.invariant.3 l.invariant.0 c.loop-i-test.false l.invariant.1
