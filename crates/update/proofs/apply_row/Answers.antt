use borrow.Author.Rules.{rules}
use lib.ListN.{length-set}
use Rattle.update.proofs.ApplyLaws.{apply-writes}
use Rattle.update.proofs.apply_row.Goals as goal

pub bounds-row-at-6 : goal.bounds-row-at-6
bounds-row-at-6 c = simp length-set (search rules)

pub bounds-row-at-7 : goal.bounds-row-at-7
bounds-row-at-7 c = simp length-set (search rules)

pub bounds-row-at-8 : goal.bounds-row-at-8
bounds-row-at-8 c = simp length-set (search rules)

pub bounds-row-at-9 : goal.bounds-row-at-9
bounds-row-at-9 c = simp length-set (search rules)

pub returns : goal.returns
returns c =
    let a = c.args in
    let status = c.status_after-status in
    let show = c.kept_or-show in
    let flexible = c.kept_or-flexible in
    let monitored = c.kept_or-monitored in
    let copied = c.copy_to in
    apply-writes a.row.now a.bodies.now a.at a.from c.requires.1 copied.new.elements status.result show.result flexible.result monitored.result
    copied.ensures status.ensures show.ensures flexible.ensures monitored.ensures
