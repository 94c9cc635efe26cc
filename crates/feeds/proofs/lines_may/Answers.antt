use Rattle.feeds.specs.Kept.{lines_may}
use Rattle.feeds.proofs.lines_may.Goals as goal

pub returns : goal.returns
unfolding lines_may
returns c = rw (c.is_known.ensures, c.is_under.ensures)
