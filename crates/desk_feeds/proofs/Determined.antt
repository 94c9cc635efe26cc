-- Each promise allows one outcome: the number returned, the answer's numbers, and every lent byte or place afterwards. Assumes nothing.
use mathlib.Core.Path.{sym, ◌∙◌}
use Rattle.lists.proofs.Promise.{Determined, OneResult}
use Rattle.desk_feeds.proofs.desk_feed_begin.Kinds as feed-begin
use Rattle.desk_feeds.proofs.desk_feed_begin.Reads as feed-begin-reads
use Rattle.desk_feeds.proofs.desk_feed.Kinds as feed
use Rattle.desk_feeds.proofs.desk_feed.Reads as feed-reads
use Rattle.desk_feeds.proofs.desk_feed_end.Kinds as feed-end
use Rattle.desk_feeds.proofs.desk_feed_end.Reads as feed-end-reads
use Rattle.feeds.specs.Feeding.{feeding}
use Rattle.desk_answers.specs.Answered.{end_told}

pub feed-begin-determined : OneResult 1 feed-begin.ps feed-begin.r feed-begin-reads.Post
feed-begin-determined κs a x y s t p q = p.0 ∙ sym q.0

pub feed-begin-numbers-determined : Determined 1 feed-begin.ps feed-begin.r feed-begin-reads.Post (λ κs x s. s.1.1.0.now)
feed-begin-numbers-determined κs a x y s t p q = p.1 ∙ sym q.1

pub feed-determined : Determined 5 feed.ps feed.r feed-reads.Post (λ κs x s. feeding x s.1.1.1.1.0.now s.1.1.1.0.now s.1.1.0.now)
feed-determined κs a x y s t p q = p ∙ sym q

pub feed-end-determined : Determined 6 feed-end.ps feed-end.r feed-end-reads.Post (λ κs x s. end_told x s.1.1.1.1.1.1.1.0.now s.1.1.0.now s.1.1.1.0.now s.1.1.1.1.1.1.0.now)
feed-end-determined κs a x y s t p q = p.0 ∙ sym q.0
