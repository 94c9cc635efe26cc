use mathlib.Core.Path.{◌∙◌}
use Rattle.reader_step.proofs.StepLaws.{line-goes, line-counted}
use Rattle.reader_step.proofs.advance.Goals as goal

pub returns-then-state-ne0 : goal.returns-then-state-ne0
returns-then-state-ne0 c =
    let l = line-counted c.args.table c.args.register.now c.args.sender c.args.state.now c.args.line.now c.args.staging.now c.if-state-ne0.true in
    record { state = c.count_line.ensures ∙ l.0; area = l.1 }

pub returns : goal.returns
returns c =
    let l = line-goes c.args.table c.args.register.now c.args.sender c.args.state.now c.args.line.now c.args.staging.now c.if-state-ne0.false in
    let n = c.line_by_mark in
    record { state = n.ensures.state ∙ l.0; area = n.ensures.area ∙ l.1 }
