use Rattle.feeds.specs.inner.Numbers.{numbers_may}
use Rattle.feeds.proofs.numbers_may.Goals as goal

pub returns : goal.returns
unfolding numbers_may
returns c = rw c.clear_behind.ensures
