use Rattle.feeds_part.proofs.ByteLaws.{reached-over, reached-within}
use Rattle.feeds_part.proofs.count.Goals as goal

pub returns-then-at-more : goal.returns-then-at-more
returns-then-at-more c = reached-over c.args.feed c.args.more c.if-at-more.true

pub returns : goal.returns
returns c = reached-within c.args.feed c.args.more c.if-at-more.false
