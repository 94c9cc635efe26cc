use borrow.Author.Rules.{rules}
use lib.ListN.{length-set}
use Rattle.lists.proofs.PartLaws.{length_part}
use Rattle.passage.specs.Layout.{body_wide}
use Rattle.withdrawals_replay.proofs.SlotWriteLaws.{held-taken, new-taken}
use Rattle.withdrawals_replay.proofs.take_into.Goals as goal

pub returns-then-slots-at-eq1 : goal.returns-then-slots-at-eq1
returns-then-slots-at-eq1 c =
    let a = c.args in
    held-taken a.at a.slots.now _ c.requires.0 (length_part a.from body_wide a.bodies.now c.requires.1) _ c.if-slots-at-eq1.true c.apply_row.ensures

pub shape_of-slots : goal.shape_of-slots
shape_of-slots c = simp length-set (search rules)

pub returns : goal.returns
returns c =
    let a = c.args in
    let begin = c.begin_row in
    let apply = c.apply_row-2 in
    new-taken a.at a.slots.now _ c.requires.0 (length_part a.from body_wide a.bodies.now c.requires.1) _ _ c.if-slots-at-eq1.false begin.ensures apply.ensures
