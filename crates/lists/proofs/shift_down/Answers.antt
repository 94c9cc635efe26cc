use Rattle.std.proofs.Common.{◌≡◌, ◌+◌, ◌-◌, ◌∙◌, ap, arith}
use Rattle.lists.specs.Part.{part, over}
use Rattle.lists.proofs.OverLaws.{over-within}
use Rattle.lists.proofs.shift_down.Goals as goal

pub returns : goal.returns
returns g c =
    let a = c.args in
    let n : a.at + a.by + a.count - (a.at + a.by) ≡ a.count = omega arith in
    c.copy_within.ensures.after
    ∙ over-within (a.at + a.by) (a.at + a.by + a.count) a.at a.elements.now (omega arith) (omega arith) (omega arith)
    ∙ ap (λ q. over a.at (part (a.at + a.by) q a.elements.now) a.elements.now) n
