use Rattle.reader_step.proofs.line_step.Goals as goal

pub returns : goal.returns
returns c = record { state = c.advance.ensures.state; area = c.advance.ensures.area }
