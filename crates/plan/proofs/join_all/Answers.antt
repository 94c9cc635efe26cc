use Prim.Native.Nat.{◌-◌}
use native.Mathlib.Omega.{arith}
use mathlib.Core.Path.{refl, ◌∙◌}
use Rattle.reader.specs.Passes.{pass_wide}
use borrow.Author.Rules.{rules}
use Rattle.lists.specs.Part.{part}
use Rattle.lists.proofs.PartLaws.{length_part}
use Rattle.plan.proofs.MatchLaws.{shared_long}
use Rattle.plan.proofs.JoinLaws.{join-start, join-turn, join-end, join-full}
use Rattle.plan.proofs.join_all.Goals as goal

pub next_with-j-requires : goal.next_with-j-requires
next_with-j-requires c =
    (shared_long c.args.shared.now c.args.pass c.args.passes.now c.requires.0 c.requires.1, search rules, search rules)

pub loop-j-init : goal.loop-j-init
loop-j-init c =
    let a = c.args in
    let g = join-start (part a.pass pass_wide a.passes.now) a.validities.now a.days (length_part a.pass pass_wide a.passes.now c.requires.1) c.requires.2 a.held a.most a.out.now a.shared.now c.requires.0 c.next_with-j.result c.requires.4 c.next_with-j.ensures in
    (refl, g.reached.within, g.few, g)

pub returns-then-m-most : goal.returns-then-m-most
returns-then-m-most c =
    let a = c.args in
    let l = c.loop-j in
    let t = join-full (part a.pass pass_wide a.passes.now) a.validities.now a.days (length_part a.pass pass_wide a.passes.now c.requires.1) c.requires.2 a.held a.most a.out.now a.shared.now c.requires.0 l.out l.m l.j l.invariant.3 c.loop-j-test.true c.if-m-most.true in record { count = t.0; bodies = t.1 }

pub next_with-j-requires-in-loop-j : goal.next_with-j-requires-in-loop-j
next_with-j-requires-in-loop-j c =
    (shared_long c.args.shared.now c.args.pass c.args.passes.now c.requires.0 c.requires.1, omega arith, omega arith)

pub loop-j-preserved : goal.loop-j-preserved
loop-j-preserved c =
    let a = c.args in
    let l = c.loop-j in
    let w = c.write_body in
    let g = join-turn (part a.pass pass_wide a.passes.now) a.validities.now a.days (length_part a.pass pass_wide a.passes.now c.requires.1) c.requires.2 a.held a.most a.out.now a.shared.now c.requires.0 l.out l.m l.j l.invariant.3 w.new.out c.next_with-j-in-loop-j.result (omega arith) (omega arith) w.ensures c.next_with-j-in-loop-j.ensures in
    (w.auto.out ∙ l.invariant.0, g.reached.within, g.few, g)

pub returns : goal.returns
returns c =
    let a = c.args in
    let l = c.loop-j in
    let t = join-end (part a.pass pass_wide a.passes.now) a.validities.now a.days (length_part a.pass pass_wide a.passes.now c.requires.1) c.requires.2 a.held a.most a.out.now a.shared.now c.requires.0 l.out l.m l.j l.invariant.3 c.loop-j-test.false in record { count = t.0; bodies = t.1 }
