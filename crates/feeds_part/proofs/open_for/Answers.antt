use mathlib.Core.Path.{◌∙◌}
use Rattle.feeds_part.proofs.PartLaws.{open-fault, open-here, open_none}
use Rattle.feeds_part.proofs.open_for.Goals as goal

pub returns-then-feed-ne0 : goal.returns-then-feed-ne0
returns-then-feed-ne0 c = open-fault c.args.many c.args.feed c.if-feed-ne0.true

pub returns-then-feed-lt65536 : goal.returns-then-feed-lt65536
returns-then-feed-lt65536 c = c.smaller.ensures ∙ open-here c.args.many c.args.feed c.if-feed-ne0.false c.if-feed-lt65536.true

pub returns : goal.returns
returns c = open_none c.args.many c.args.feed c.if-feed-lt65536.false
