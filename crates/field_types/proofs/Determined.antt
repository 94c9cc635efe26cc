-- The promise of each public function allows one result, which follows from what was passed. None is lent bytes to write. Assumes nothing.
use mathlib.Core.Path.{sym, ◌∙◌}
use Rattle.lists.proofs.Promise.{OneResult}
use Rattle.field_types.proofs.read_number.Kinds as read_number
use Rattle.field_types.proofs.read_number.Reads as read-number-reads
use Rattle.field_types.proofs.read_clock.Kinds as read-clock
use Rattle.field_types.proofs.read_clock.Reads as read-clock-reads
use Rattle.field_types.proofs.read_time.Kinds as read-time
use Rattle.field_types.proofs.read_time.Reads as read-time-reads
use Rattle.field_types.proofs.read_date.Kinds as read-date
use Rattle.field_types.proofs.read_date.Reads as read-date-reads
use Rattle.field_types.proofs.read_stamp.Kinds as read-stamp
use Rattle.field_types.proofs.read_stamp.Reads as read-stamp-reads
use Rattle.field_types.proofs.in_stamp_range.Kinds as in-stamp-range
use Rattle.field_types.proofs.in_stamp_range.Reads as in-stamp-range-reads
use Rattle.field_types.proofs.read_bit.Kinds as read-bit
use Rattle.field_types.proofs.read_bit.Reads as read-bit-reads
use Rattle.field_types.proofs.read_status.Kinds as read-status
use Rattle.field_types.proofs.read_status.Reads as read-status-reads
use Rattle.field_types.proofs.read_stop_type.Kinds as read-stop-type
use Rattle.field_types.proofs.read_stop_type.Reads as read-stop-type-reads
use Rattle.field_types.proofs.read_flexible.Kinds as read-flexible
use Rattle.field_types.proofs.read_flexible.Reads as read-flexible-reads
use Rattle.field_types.proofs.read_truth.Kinds as read-truth
use Rattle.field_types.proofs.read_truth.Reads as read-truth-reads
use Rattle.field_types.proofs.read_shown.Kinds as read-shown
use Rattle.field_types.proofs.read_shown.Reads as read-shown-reads

pub read-number-determined : OneResult 1 read_number.ps read_number.r read-number-reads.Post
read-number-determined κs a x y s t p q = p ∙ sym q

pub read-clock-determined : OneResult 1 read-clock.ps read-clock.r read-clock-reads.Post
read-clock-determined κs a x y s t p q = p ∙ sym q

pub read-time-determined : OneResult 1 read-time.ps read-time.r read-time-reads.Post
read-time-determined κs a x y s t p q = p ∙ sym q

pub read-date-determined : OneResult 1 read-date.ps read-date.r read-date-reads.Post
read-date-determined κs a x y s t p q = p ∙ sym q

pub read-stamp-determined : OneResult 1 read-stamp.ps read-stamp.r read-stamp-reads.Post
read-stamp-determined κs a x y s t p q = p ∙ sym q

pub in-stamp-range-determined : OneResult 0 in-stamp-range.ps in-stamp-range.r in-stamp-range-reads.Post
in-stamp-range-determined κs a x y s t p q = p ∙ sym q

pub read-bit-determined : OneResult 1 read-bit.ps read-bit.r read-bit-reads.Post
read-bit-determined κs a x y s t p q = p ∙ sym q

pub read-status-determined : OneResult 1 read-status.ps read-status.r read-status-reads.Post
read-status-determined κs a x y s t p q = p ∙ sym q

pub read-stop-type-determined : OneResult 1 read-stop-type.ps read-stop-type.r read-stop-type-reads.Post
read-stop-type-determined κs a x y s t p q = p ∙ sym q

pub read-flexible-determined : OneResult 1 read-flexible.ps read-flexible.r read-flexible-reads.Post
read-flexible-determined κs a x y s t p q = p ∙ sym q

pub read-truth-determined : OneResult 1 read-truth.ps read-truth.r read-truth-reads.Post
read-truth-determined κs a x y s t p q = p ∙ sym q

pub read-shown-determined : OneResult 1 read-shown.ps read-shown.r read-shown-reads.Post
read-shown-determined κs a x y s t p q = p ∙ sym q
