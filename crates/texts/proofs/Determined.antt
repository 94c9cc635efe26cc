-- The promise of each public function allows one outcome: its answer, or the lent row afterwards, follows from what was passed. Assumes nothing.
use mathlib.Core.Path.{sym, ◌∙◌}
use Rattle.lists.proofs.Promise.{Determined, OneResult}
use Rattle.texts.proofs.read_text.Kinds as read-text
use Rattle.texts.proofs.read_text.Reads as read-text-reads
use Rattle.texts.proofs.is_plain.Kinds as is_plain
use Rattle.texts.proofs.is_plain.Reads as is-plain-reads
use Rattle.texts.proofs.write_plain.Kinds as write-plain
use Rattle.texts.proofs.write_plain.Reads as write-plain-reads

pub read-text-determined : OneResult 1 read-text.ps read-text.r read-text-reads.Post
read-text-determined κs a x y s t p q = p ∙ sym q

pub is-plain-determined : OneResult 1 is_plain.ps is_plain.r is-plain-reads.Post
is-plain-determined κs a x y s t p q = p ∙ sym q

pub write-plain-row-determined : Determined 2 write-plain.ps write-plain.r write-plain-reads.Post (λ κs x s. s.1.0.now)
write-plain-row-determined κs a x y s t p q = p ∙ sym q
