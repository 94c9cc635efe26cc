-- Each promise allows one outcome: the number returned, the answer's numbers, and every lent byte or place afterwards. Assumes nothing.
use mathlib.Core.Path.{sym, ◌∙◌}
use Rattle.lists.proofs.Promise.{Determined}
use Rattle.desk_day.proofs.desk_open.Kinds as opens
use Rattle.desk_day.proofs.desk_open.Reads as opens-reads
use Rattle.desk_day.proofs.desk_message.Kinds as message
use Rattle.desk_day.proofs.desk_message.Reads as message-reads
use Rattle.desk_day.proofs.desk_withdraw.Kinds as withdraw
use Rattle.desk_day.proofs.desk_withdraw.Reads as withdraw-reads
use Rattle.desk_answers.specs.Answered.{told}

pub open-determined : Determined 5 opens.ps opens.r opens-reads.Post (λ κs x s. told x s.1.1.1.1.1.1.0.now s.1.1.0.now s.1.1.1.0.now)
open-determined κs a x y s t p q = p.0 ∙ sym q.0

pub message-determined : Determined 5 message.ps message.r message-reads.Post (λ κs x s. told x s.1.1.1.1.1.1.1.1.0.now s.1.1.1.1.0.now s.1.1.1.1.1.0.now)
message-determined κs a x y s t p q = p.0 ∙ sym q.0

pub withdraw-determined : Determined 3 withdraw.ps withdraw.r withdraw-reads.Post (λ κs x s. told x s.1.1.1.1.1.1.0.now s.1.1.0.now s.1.1.1.0.now)
withdraw-determined κs a x y s t p q = p.0 ∙ sym q.0
