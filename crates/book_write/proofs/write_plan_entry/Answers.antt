use mathlib.Core.Path.{ap, ◌∙◌}
use native.Mathlib.Omega.{arith}
use lib.ListN.{length, length-set, length-take, length-drop}
use Rattle.lists.proofs.OverLaws.{length_over}
use Rattle.passage.specs.Layout.{body_wide}
use Rattle.book.proofs.WriteLaws.{lent-part}
use Rattle.book_write.proofs.WriteLaws.{plan-entry-written}
use Rattle.book_write.proofs.write_plan_entry.Goals as goal

pub copy_to-requires : goal.copy_to-requires
copy_to-requires c = simp (length-set, length-take, length-drop) (omega arith)

pub shape_of-tail : goal.shape_of-tail
shape_of-tail c =
    let a = c.args in
    ap length c.copy_to.ensures ∙ length_over _ _ _ ∙ length-set a.tail.now a.at 1

pub returns : goal.returns
returns c =
    let a = c.args in
    c.copy_to.ensures ∙ rw (lent-part a.from body_wide a.bodies.now) (plan-entry-written a.at _ a.tail.now)
