-- The promise of each public function allows one outcome: its result, the bytes of a part that it hands back, and what it leaves behind a `&mut` follow from what was passed. Assumes nothing.
use mathlib.Core.Path.{sym, ◌∙◌}
use Rattle.lists.proofs.Promise.{Determined, OneResult}
use Rattle.script_text.proofs.at_most.Kinds as at_most
use Rattle.script_text.proofs.at_most.Reads as at-most-reads
use Rattle.script_text.proofs.low_byte.Kinds as low_byte
use Rattle.script_text.proofs.low_byte.Reads as low-byte-reads
use Rattle.script_text.proofs.low_word.Kinds as low_word
use Rattle.script_text.proofs.low_word.Reads as low-word-reads
use Rattle.script_text.proofs.leading_number.Kinds as leading-number
use Rattle.script_text.proofs.leading_number.Reads as leading-number-reads
use Rattle.script_text.proofs.hex_byte.Kinds as hex-byte
use Rattle.script_text.proofs.hex_byte.Reads as hex-byte-reads
use Rattle.script_text.proofs.at.Kinds as at
use Rattle.script_text.proofs.at.Reads as at_reads
use Rattle.script_text.proofs.front.Kinds as front
use Rattle.script_text.proofs.front.Reads as front_reads
use Rattle.script_text.proofs.after.Kinds as after
use Rattle.script_text.proofs.after.Reads as after-reads
use Rattle.script_text.proofs.part.Kinds as part
use Rattle.script_text.proofs.part.Reads as part-reads
use Rattle.script_text.proofs.before.Kinds as before
use Rattle.script_text.proofs.before.Reads as before-reads
use Rattle.script_text.proofs.behind.Kinds as behind
use Rattle.script_text.proofs.behind.Reads as behind-reads
use Rattle.script_text.proofs.first_line.Kinds as first-line
use Rattle.script_text.proofs.first_line.Reads as first-line-reads
use Rattle.script_text.proofs.rest_after_line.Kinds as rest-after-line
use Rattle.script_text.proofs.rest_after_line.Reads as rest-after-line-reads
use Rattle.script_text.proofs.word.Kinds as word
use Rattle.script_text.proofs.word.Reads as word-reads
use Rattle.script_text.proofs.append.Kinds as append
use Rattle.script_text.proofs.append.Reads as append-reads
use Rattle.script_text.proofs.pad.Kinds as pad
use Rattle.script_text.proofs.pad.Reads as pad-reads

pub at-most-determined : OneResult 0 at_most.ps at_most.r at-most-reads.Post
at-most-determined κs a x y s t p q = p.0 ∙ sym q.0

pub low-byte-determined : OneResult 0 low_byte.ps low_byte.r low-byte-reads.Post
low-byte-determined κs a x y s t p q = p ∙ sym q

pub low-word-determined : OneResult 0 low_word.ps low_word.r low-word-reads.Post
low-word-determined κs a x y s t p q = p ∙ sym q

pub leading-number-determined : OneResult 1 leading-number.ps leading-number.r leading-number-reads.Post
leading-number-determined κs a x y s t p q = p ∙ sym q

pub hex-byte-determined : OneResult 0 hex-byte.ps hex-byte.r hex-byte-reads.Post
hex-byte-determined κs a x y s t p q = p ∙ sym q

pub at-determined : OneResult 1 at.ps at.r at_reads.Post
at-determined κs a x y s t p q = p ∙ sym q

pub front-determined : Determined 1 front.ps front.r front_reads.Post (λ κs x s. x.now)
front-determined κs a x y s t p q = p ∙ sym q

pub after-determined : Determined 1 after.ps after.r after-reads.Post (λ κs x s. x.now)
after-determined κs a x y s t p q = p.0 ∙ sym q.0

pub part-determined : Determined 1 part.ps part.r part-reads.Post (λ κs x s. x.now)
part-determined κs a x y s t p q = p ∙ sym q

pub before-determined : Determined 1 before.ps before.r before-reads.Post (λ κs x s. x.now)
before-determined κs a x y s t p q = p ∙ sym q

pub behind-determined : Determined 1 behind.ps behind.r behind-reads.Post (λ κs x s. x.now)
behind-determined κs a x y s t p q = p.0 ∙ sym q.0

pub first-line-determined : Determined 1 first-line.ps first-line.r first-line-reads.Post (λ κs x s. x.now)
first-line-determined κs a x y s t p q = p ∙ sym q

pub rest-after-line-determined : Determined 1 rest-after-line.ps rest-after-line.r rest-after-line-reads.Post (λ κs x s. x.now)
rest-after-line-determined κs a x y s t p q = p.0 ∙ sym q.0

pub word-determined : Determined 1 word.ps word.r word-reads.Post (λ κs x s. x.now)
word-determined κs a x y s t p q = p ∙ sym q

pub append-determined : OneResult 2 append.ps append.r append-reads.Post
append-determined κs a x y s t p q = p.0 ∙ sym q.0

pub append-bytes-determined : Determined 2 append.ps append.r append-reads.Post (λ κs x s. s.0.now)
append-bytes-determined κs a x y s t p q = p.1 ∙ sym q.1

pub pad-determined : OneResult 1 pad.ps pad.r pad-reads.Post
pad-determined κs a x y s t p q = p.0 ∙ sym q.0

pub pad-bytes-determined : Determined 1 pad.ps pad.r pad-reads.Post (λ κs x s. s.0.now)
pad-bytes-determined κs a x y s t p q = p.1 ∙ sym q.1
