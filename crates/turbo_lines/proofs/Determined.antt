-- The promise of each public function allows one outcome: its result, the bytes of a part that it hands back, and what it leaves behind a `&mut` follow from what was passed. Assumes nothing.
use mathlib.Core.Path.{sym, ◌∙◌}
use Rattle.lists.proofs.Promise.{Determined, OneResult}
use Rattle.turbo_lines.proofs.first_line.Kinds as first-line
use Rattle.turbo_lines.proofs.first_line.Reads as first-line-reads
use Rattle.turbo_lines.proofs.rest_after_line.Kinds as rest-after-line
use Rattle.turbo_lines.proofs.rest_after_line.Reads as rest-after-line-reads
use Rattle.turbo_lines.proofs.read_line.Kinds as read-line
use Rattle.turbo_lines.proofs.read_line.Reads as read-line-reads
use Rattle.turbo_lines.proofs.count_lines.Kinds as count-lines
use Rattle.turbo_lines.proofs.count_lines.Reads as count-lines-reads
use Rattle.turbo_lines.proofs.first_long.Kinds as first-long
use Rattle.turbo_lines.proofs.first_long.Reads as first-long-reads
use Rattle.turbo_lines.proofs.line_feed.Kinds as line-feed
use Rattle.turbo_lines.proofs.line_feed.Reads as line-feed-reads
use Rattle.turbo_lines.proofs.mark_of.Kinds as mark-of
use Rattle.turbo_lines.proofs.mark_of.Reads as mark-of-reads
use Rattle.turbo_lines.proofs.after_mark.Kinds as after-mark
use Rattle.turbo_lines.proofs.after_mark.Reads as after-mark-reads

pub first-line-determined : Determined 1 first-line.ps first-line.r first-line-reads.Post (λ κs x s. x.now)
first-line-determined κs a x y s t p q = p ∙ sym q

pub rest-after-line-determined : Determined 1 rest-after-line.ps rest-after-line.r rest-after-line-reads.Post (λ κs x s. x.now)
rest-after-line-determined κs a x y s t p q = p ∙ sym q

pub count-lines-determined : OneResult 1 count-lines.ps count-lines.r count-lines-reads.Post
count-lines-determined κs a x y s t p q = p ∙ sym q

pub first-long-determined : OneResult 1 first-long.ps first-long.r first-long-reads.Post
first-long-determined κs a x y s t p q = p ∙ sym q

pub line-feed-determined : OneResult 1 line-feed.ps line-feed.r line-feed-reads.Post
line-feed-determined κs a x y s t p q = p.0 ∙ sym q.0

pub mark-of-determined : OneResult 1 mark-of.ps mark-of.r mark-of-reads.Post
mark-of-determined κs a x y s t p q = p ∙ sym q

pub after-mark-determined : Determined 1 after-mark.ps after-mark.r after-mark-reads.Post (λ κs x s. x.now)
after-mark-determined κs a x y s t p q = p ∙ sym q

pub read-line-determined : Determined 1 read-line.ps read-line.r read-line-reads.Post (λ κs x s. x.0.now)
read-line-determined κs a x y s t p q = p.0 ∙ sym q.0

pub read-line-tail-determined : Determined 1 read-line.ps read-line.r read-line-reads.Post (λ κs x s. x.1.now)
read-line-tail-determined κs a x y s t p q = p.1 ∙ sym q.1
