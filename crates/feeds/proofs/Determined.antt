-- The promise of each public function allows one outcome: what was read, or the numbers afterwards. Assumes nothing.
use mathlib.Core.Path.{sym, ◌∙◌}
use Rattle.lists.proofs.Promise.{Determined, OneResult}
use Rattle.feeds.proofs.begin.Kinds as begin
use Rattle.feeds.proofs.begin.Reads as begin-reads
use Rattle.feeds.proofs.keep.Kinds as keep
use Rattle.feeds.proofs.keep.Reads as keep-reads
use Rattle.feeds.proofs.message_of.Kinds as message-of
use Rattle.feeds.proofs.message_of.Reads as message-of-reads
use Rattle.feeds.proofs.read.Kinds as read
use Rattle.feeds.proofs.read.Reads as read-reads

pub begin-determined : Determined 1 begin.ps begin.r begin-reads.Post (λ κs x s. s.0.now)
begin-determined κs a x y s t p q = p ∙ sym q

pub keep-determined : Determined 1 keep.ps keep.r keep-reads.Post (λ κs x s. s.0.now)
keep-determined κs a x y s t p q = p ∙ sym q

pub message-of-determined : OneResult 0 message-of.ps message-of.r message-of-reads.Post
message-of-determined κs a x y s t p q = p ∙ sym q

pub read-determined : OneResult 0 read.ps read.r read-reads.Post
read-determined κs a x y s t p q = p ∙ sym q
