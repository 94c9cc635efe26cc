use mathlib.Core.Path.{sym}
use Rattle.feeds.proofs.KeptLaws.{fitting-bytes, fitting-may, fitting-not, fitting-none}
use Rattle.feeds.proofs.read_fitting.Goals as goal

pub feed_in-requires : goal.feed_in-requires
feed_in-requires c = fitting-bytes c.args.kept c.requires

pub returns-in_err-feed : goal.returns-in_err-feed
returns-in_err-feed c = rw c.from_residual.ensures (fitting-none c.args.kept (sym c.in_err-feed.ensures))

pub returns-then-feed_may : goal.returns-then-feed_may
returns-then-feed_may c =
    fitting-may c.args.kept c.in_ok-feed.feed (sym c.in_ok-feed.ensures) c.feed_may.result c.feed_may.ensures c.if-feed_may.true

pub returns : goal.returns
returns c =
    fitting-not c.args.kept c.in_ok-feed.feed (sym c.in_ok-feed.ensures) c.feed_may.result c.feed_may.ensures c.if-feed_may.false
