-- The promise of each public function allows one outcome: its answer follows from what was passed. Assumes nothing.
use mathlib.Core.Path.{sym, ◌∙◌}
use Rattle.lists.proofs.Promise.{OneResult}
use Rattle.book.proofs.count_plans.Kinds as count-plans
use Rattle.book.proofs.count_plans.Reads as count-plans-reads
use Rattle.book.proofs.book_room.Kinds as book-room
use Rattle.book.proofs.book_room.Reads as book-room-reads
use Rattle.book.proofs.book_is_sound.Kinds as book-is-sound
use Rattle.book.proofs.book_is_sound.Reads as book-is-sound-reads

pub count-plans-determined : OneResult 1 count-plans.ps count-plans.r count-plans-reads.Post
count-plans-determined κs a x y s t p q = p ∙ sym q

pub book-room-determined : OneResult 1 book-room.ps book-room.r book-room-reads.Post
book-room-determined κs a x y s t p q = p ∙ sym q

pub book-is-sound-determined : OneResult 1 book-is-sound.ps book-is-sound.r book-is-sound-reads.Post
book-is-sound-determined κs a x y s t p q = p ∙ sym q
