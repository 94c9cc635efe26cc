use Prim.Native.Nat.{ℕ, ◌-◌}
use mathlib.Core.Path.{refl, sym, ap, ◌∙◌}
use mathlib.Core.List.{List}
use native.Mathlib.Omega.{arith}
use lib.ListN.{length-set}
use lib.Seq.{take_all}
use Rattle.lists.specs.Part.{over}
use Rattle.lists.proofs.OverLaws.{over-nil}
use Rattle.lists.proofs.TurnLaws.{copy-turn}
use Rattle.feeds.proofs.keep_places.Goals as goal

pub loop-i-init : goal.loop-i-init
loop-i-init c = (omega arith, refl, omega arith, sym (over-nil _ _))

pub loop-i-preserved : goal.loop-i-preserved
loop-i-preserved c =
    let l = c.loop-i in
    let a = c.args in
    (omega arith, simp length-set l.invariant.1, l.invariant.2, copy-turn 18 l.i a.places a.kept.now l.kept l.invariant.3 (omega arith))

pub returns : goal.returns
returns c =
    let l = c.loop-i in
    let a = c.args in
    record { kept = l.invariant.3 ∙ ap (λ (b : List ℕ). over 18 b a.kept.now) (take_all l.i a.places (omega arith)); room = l.invariant.2 }
