use mathlib.Core.Path.{refl, ◌∙◌}
use Prim.Native.Nat.{ℕ, ◌<◌}
use native.Mathlib.Omega.{arith}
use lib.ListN.{take}
use Rattle.lists.proofs.EachLaws.{each_at}
use Rattle.withdrawals_replay.specs.inner.Slots.{slots_of}
use Rattle.withdrawals_replay.proofs.HeardLaws.{heard-start, heard-turn, heard-end}
use Rattle.withdrawals_replay.proofs.replay.Goals as goal

pub loop-i-init : goal.loop-i-init
loop-i-init c =
    let a = c.args in
    (refl, heard-start a.number a.book.now a.at a.updates _ _ c.requires.slots_value)

pub invariant_of-names : goal.invariant_of-names
invariant_of-names c =
    let a = c.args in
    let p = c.requires in
    record {
      entries_there = p.entry_wide_in_bounds.1;
      named_there = p.entry_wide_in_bounds.2;
      places_below = λ i h. each_at (λ (j : ℕ). j < a.entries) (take a.named a.order.now) i 0 p.each h;
      names_rise = p.order_value;
    }

pub replay_one-requires : goal.replay_one-requires
replay_one-requires c =
    record { entry_wide_in_bounds = (omega arith, omega arith); slots_value = c.loop-i.invariant.1.keys }

pub loop-i-preserved : goal.loop-i-preserved
loop-i-preserved c =
    let a = c.args in
    let loop = c.loop-i in
    (c.replay_one.ensures.rest ∙ loop.invariant.0, heard-turn a.number a.book.now a.at a.updates _ _ loop.i (slots_of a.named loop.slots) _ c.requires.entry_wide_in_bounds.0 c.loop-i-test.true loop.invariant.1 c.replay_one.ensures.taken)

pub returns : goal.returns
returns c =
    let a = c.args in
    let loop = c.loop-i in
    record { taken = heard-end a.number a.book.now a.at a.updates _ _ loop.i (slots_of a.named loop.slots) c.loop-i-test.false loop.invariant.1; rest = loop.invariant.0 }
