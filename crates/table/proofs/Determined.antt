-- The promise of each public function allows one outcome: its answer, and the lent bytes afterwards, follow from what was passed. Assumes nothing.
use mathlib.Core.Path.{sym, ◌∙◌}
use Rattle.lists.proofs.Promise.{OneResult, Determined}
use Rattle.table.proofs.rows_room.Kinds as rows-room
use Rattle.table.proofs.rows_room.Reads as rows-room-reads
use Rattle.table.proofs.table_is_sound.Kinds as table-is-sound
use Rattle.table.proofs.table_is_sound.Reads as table-is-sound-reads
use Rattle.table.proofs.find.Kinds as find
use Rattle.table.proofs.find.Reads as find-reads
use Rattle.table.proofs.find_near.Kinds as find-near
use Rattle.table.proofs.find_near.Reads as find-near-reads
use Rattle.table.proofs.insert_row.Kinds as insert-row
use Rattle.table.proofs.insert_row.Reads as insert-row-reads
use Rattle.table.proofs.replace_row.Kinds as replace-row
use Rattle.table.proofs.replace_row.Reads as replace-row-reads
use Rattle.table.proofs.remove_key.Kinds as remove_key
use Rattle.table.proofs.remove_key.Reads as remove-key-reads

-- ---- functions that answer, and write nothing

pub rows-room-determined : OneResult 1 rows-room.ps rows-room.r rows-room-reads.Post
rows-room-determined κs a x y s t p q = p ∙ sym q

pub table-is-sound-determined : OneResult 1 table-is-sound.ps table-is-sound.r table-is-sound-reads.Post
table-is-sound-determined κs a x y s t p q = p ∙ sym q

pub find-determined : OneResult 2 find.ps find.r find-reads.Post
find-determined κs a x y s t p q = p ∙ sym q

pub find-near-determined : OneResult 2 find-near.ps find-near.r find-near-reads.Post
find-near-determined κs a x y s t p q = p ∙ sym q

-- ---- functions that write into their first parameter, and answer nothing

pub insert-row-determined : Determined 2 insert-row.ps insert-row.r insert-row-reads.Post (λ κs x s. s.0.now)
insert-row-determined κs a x y s t p q = p ∙ sym q

pub replace-row-determined : Determined 2 replace-row.ps replace-row.r replace-row-reads.Post (λ κs x s. s.0.now)
replace-row-determined κs a x y s t p q = p ∙ sym q

-- ---- functions that answer a count and write into their first parameter

pub remove-key-determined : OneResult 2 remove_key.ps remove_key.r remove-key-reads.Post × Determined 2 remove_key.ps remove_key.r remove-key-reads.Post (λ κs x s. s.0.now)
remove-key-determined = (λ κs a x y s t p q. p.0 ∙ sym q.0, λ κs a x y s t p q. p.1 ∙ sym q.1)
