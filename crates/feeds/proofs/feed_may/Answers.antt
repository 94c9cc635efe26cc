use mathlib.Core.Path.{sym}
use Rattle.feeds.specs.Kept.{feed_may}
use Rattle.feeds.proofs.KeptLaws.{may-long}
use Rattle.feeds.proofs.feed_may.Goals as goal

pub returns-then-at-gt65537 : goal.returns-then-at-gt65537
returns-then-at-gt65537 c = sym (may-long _ c.if-at-gt65537.true)

pub returns : goal.returns
unfolding feed_may
returns c = rw c.lines_may.ensures
