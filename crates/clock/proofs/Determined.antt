-- The promise of each public function allows one result, which follows from what was passed. None is lent bytes to write. Assumes nothing.
use mathlib.Core.Path.{sym, ◌∙◌}
use Rattle.lists.proofs.Promise.{OneResult}
use Rattle.clock.proofs.is_date.Kinds as is-date
use Rattle.clock.proofs.is_date.Reads as is-date-reads
use Rattle.clock.proofs.day_count.Kinds as day-count
use Rattle.clock.proofs.day_count.Reads as day-count-reads
use Rattle.clock.proofs.moment.Kinds as moment
use Rattle.clock.proofs.moment.Reads as moment-reads
use Rattle.clock.proofs.date_at.Kinds as date_offset
use Rattle.clock.proofs.date_at.Reads as date-at-reads
use Rattle.clock.proofs.second_at.Kinds as second_at
use Rattle.clock.proofs.second_at.Reads as second-at-reads

pub is-date-determined : OneResult 0 is-date.ps is-date.r is-date-reads.Post
is-date-determined κs a x y s t p q = p ∙ sym q

pub day-count-determined : OneResult 0 day-count.ps day-count.r day-count-reads.Post
day-count-determined κs a x y s t p q = p ∙ sym q

pub moment-determined : OneResult 0 moment.ps moment.r moment-reads.Post
moment-determined κs a x y s t p q = p ∙ sym q

pub date-at-determined : OneResult 0 date_offset.ps date_offset.r date-at-reads.Post
date-at-determined κs a x y s t p q = p ∙ sym q

pub second-at-determined : OneResult 0 second_at.ps second_at.r second-at-reads.Post
second-at-determined κs a x y s t p q = p ∙ sym q
