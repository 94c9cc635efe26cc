-- The promise of each public function allows one outcome: its answer, and the staging area afterwards. Assumes nothing.
use mathlib.Core.Path.{sym, ◌∙◌}
use Rattle.lists.proofs.Promise.{Determined, OneResult}
use Rattle.reader.proofs.read_message.Kinds as read-message
use Rattle.reader.proofs.read_message.Reads as read-message-reads
use Rattle.reader.proofs.read_planning.Kinds as read-planning
use Rattle.reader.proofs.read_planning.Reads as read-planning-reads
use Rattle.reader.proofs.read_calendar.Kinds as read-calendar
use Rattle.reader.proofs.read_calendar.Reads as read-calendar-reads

pub read-message-determined : OneResult 3 read-message.ps read-message.r read-message-reads.Post
read-message-determined κs a x y s t p q = p.0 ∙ sym q.0

pub read-message-area-determined : Determined 3 read-message.ps read-message.r read-message-reads.Post (λ κs x s. s.1.1.1.1.0.now)
read-message-area-determined κs a x y s t p q = p.1.0 ∙ sym q.1.0

pub read-planning-determined : OneResult 2 read-planning.ps read-planning.r read-planning-reads.Post
read-planning-determined κs a x y s t p q = p.0 ∙ sym q.0

pub read-planning-area-determined : Determined 2 read-planning.ps read-planning.r read-planning-reads.Post (λ κs x s. s.1.0.now)
read-planning-area-determined κs a x y s t p q = p.1.0 ∙ sym q.1.0

pub read-calendar-determined : OneResult 2 read-calendar.ps read-calendar.r read-calendar-reads.Post
read-calendar-determined κs a x y s t p q = p.0 ∙ sym q.0

pub read-calendar-area-determined : Determined 2 read-calendar.ps read-calendar.r read-calendar-reads.Post (λ κs x s. s.1.0.now)
read-calendar-area-determined κs a x y s t p q = p.1.0 ∙ sym q.1.0
