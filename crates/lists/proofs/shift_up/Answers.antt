use Rattle.std.proofs.Common.{◌+◌, ◌∙◌, arith}
use Rattle.lists.proofs.OverLaws.{over-within}
use Rattle.lists.proofs.shift_up.Goals as goal

pub returns : goal.returns
returns g c =
    let a = c.args in
    c.copy_within.ensures.after ∙ over-within a.start a.end (a.start + a.by) a.elements.now (omega arith) (omega arith) (omega arith)
