-- Each promise allows one outcome: the answer with the counts, and every byte of book and table afterwards. Assumes nothing.
use mathlib.Core.Path.{sym, ◌∙◌}
use Rattle.lists.proofs.Promise.{Determined, OneResult}
use Rattle.calls.specs.Leaves.{leaves}
use Rattle.messages.proofs.message.Kinds as message
use Rattle.messages.proofs.message.Reads as message-reads
use Rattle.messages.proofs.is_sound.Kinds as is-sound
use Rattle.messages.proofs.is_sound.Reads as is-sound-reads
use Rattle.messages.proofs.take_rows.Kinds as take-rows
use Rattle.messages.proofs.take_rows.Reads as take-rows-reads

pub message-determined : Determined 4 message.ps message.r message-reads.Post (λ κs x s. leaves x s.1.1.1.1.0.now s.1.1.1.1.1.0.now)
message-determined κs a x y s t p q = p.0 ∙ sym q.0

pub take-rows-determined : Determined 3 take-rows.ps take-rows.r take-rows-reads.Post (λ κs x s. leaves x s.1.1.1.0.now s.1.1.1.1.0.now)
take-rows-determined κs a x y s t p q = p ∙ sym q

pub is-sound-determined : OneResult 3 is-sound.ps is-sound.r is-sound-reads.Post
is-sound-determined κs a x y s t p q = p ∙ sym q
