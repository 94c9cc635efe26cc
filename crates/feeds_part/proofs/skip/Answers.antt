use Rattle.feeds_part.proofs.skip.Goals as goal

pub returns : goal.returns
returns c = c.end_line.ensures
