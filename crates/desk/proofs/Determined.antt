-- Each promise allows one outcome: the number returned, the answer's numbers, and every lent byte or place afterwards. Assumes nothing.
use mathlib.Core.Path.{sym, ◌∙◌}
use Rattle.lists.proofs.Promise.{Determined, OneResult}
use Rattle.desk.proofs.desk_open.Kinds as opens
use Rattle.desk.proofs.desk_open.Reads as opens-reads
use Rattle.desk.proofs.desk_message.Kinds as message
use Rattle.desk.proofs.desk_message.Reads as message-reads
use Rattle.desk.proofs.desk_feed_begin.Kinds as feed-begin
use Rattle.desk.proofs.desk_feed_begin.Reads as feed-begin-reads
use Rattle.desk.proofs.desk_feed.Kinds as feed
use Rattle.desk.proofs.desk_feed.Reads as feed-reads
use Rattle.desk.proofs.desk_feed_end.Kinds as feed-end
use Rattle.desk.proofs.desk_feed_end.Reads as feed-end-reads
use Rattle.desk.proofs.desk_withdraw.Kinds as withdraw
use Rattle.desk.proofs.desk_withdraw.Reads as withdraw-reads
use Rattle.desk.proofs.desk_board.Kinds as board
use Rattle.desk.proofs.desk_board.Reads as board-reads
use Rattle.feeds.specs.Feeding.{feeding}
use Rattle.desk_answers.specs.Answered.{told, end_told}

pub open-determined : Determined 5 opens.ps opens.r opens-reads.Post (λ κs x s. told x s.1.1.1.1.1.1.0.now s.1.1.0.now s.1.1.1.0.now)
open-determined κs a x y s t p q = p.0 ∙ sym q.0

pub message-determined : Determined 5 message.ps message.r message-reads.Post (λ κs x s. told x s.1.1.1.1.1.1.1.1.0.now s.1.1.1.1.0.now s.1.1.1.1.1.0.now)
message-determined κs a x y s t p q = p.0 ∙ sym q.0

pub feed-begin-determined : OneResult 1 feed-begin.ps feed-begin.r feed-begin-reads.Post
feed-begin-determined κs a x y s t p q = p.0 ∙ sym q.0

pub feed-begin-numbers-determined : Determined 1 feed-begin.ps feed-begin.r feed-begin-reads.Post (λ κs x s. s.1.1.0.now)
feed-begin-numbers-determined κs a x y s t p q = p.1 ∙ sym q.1

pub feed-determined : Determined 5 feed.ps feed.r feed-reads.Post (λ κs x s. feeding x s.1.1.1.1.0.now s.1.1.1.0.now s.1.1.0.now)
feed-determined κs a x y s t p q = p ∙ sym q

pub feed-end-determined : Determined 6 feed-end.ps feed-end.r feed-end-reads.Post (λ κs x s. end_told x s.1.1.1.1.1.1.1.0.now s.1.1.0.now s.1.1.1.0.now s.1.1.1.1.1.1.0.now)
feed-end-determined κs a x y s t p q = p.0 ∙ sym q.0

pub withdraw-determined : Determined 3 withdraw.ps withdraw.r withdraw-reads.Post (λ κs x s. told x s.1.1.1.1.1.1.0.now s.1.1.0.now s.1.1.1.0.now)
withdraw-determined κs a x y s t p q = p.0 ∙ sym q.0

pub board-determined : OneResult 5 board.ps board.r board-reads.Post
board-determined κs a x y s t p q = p.0 ∙ sym q.0

pub board-answer-determined : Determined 5 board.ps board.r board-reads.Post (λ κs x s. s.1.1.1.1.1.1.1.1.0.now)
board-answer-determined κs a x y s t p q = p.1.0 ∙ sym q.1.0

pub board-places-determined : Determined 5 board.ps board.r board-reads.Post (λ κs x s. s.1.1.1.1.1.1.1.0.now)
board-places-determined κs a x y s t p q = p.1.1 ∙ sym q.1.1
