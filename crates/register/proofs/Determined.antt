-- The promise of each public function allows one answer, which follows from what was passed. None is lent bytes to write. Assumes nothing.
use mathlib.Core.Path.{sym, ◌∙◌}
use Rattle.lists.proofs.Promise.{Determined}
use Rattle.register.proofs.registered.Kinds as registered
use Rattle.register.proofs.registered.Reads as registered-reads
use Rattle.register.proofs.register_is_sound.Kinds as register-is-sound
use Rattle.register.proofs.register_is_sound.Reads as register-is-sound-reads
use Rattle.register.proofs.may_send.Kinds as may-send
use Rattle.register.proofs.may_send.Reads as may-send-reads

pub registered-determined : Determined 2 registered.ps registered.r registered-reads.Post (λ κs x s. x)
registered-determined κs a x y s t p q = p ∙ sym q

pub register-is-sound-determined : Determined 1 register-is-sound.ps register-is-sound.r register-is-sound-reads.Post (λ κs x s. x)
register-is-sound-determined κs a x y s t p q = p ∙ sym q

pub may-send-determined : Determined 2 may-send.ps may-send.r may-send-reads.Post (λ κs x s. x)
may-send-determined κs a x y s t p q = p ∙ sym q
