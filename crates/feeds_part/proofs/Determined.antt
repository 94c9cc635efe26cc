-- The promise of the public function allows one outcome: the answer, and every lent byte and number afterwards. Assumes nothing.
use mathlib.Core.Path.{sym, ◌∙◌}
use Rattle.lists.proofs.Promise.{Determined}
use Rattle.feeds.specs.Feeding.{feeding}
use Rattle.feeds_part.proofs.feed.Kinds as feed
use Rattle.feeds_part.proofs.feed.Reads as feed-reads

pub feed-determined : Determined 5 feed.ps feed.r feed-reads.Post (λ κs x s. feeding x s.1.1.1.1.0.now s.1.1.1.0.now s.1.1.0.now)
feed-determined κs a x y s t p q = p ∙ sym q
