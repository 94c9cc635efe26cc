-- The promise of each public function allows one outcome: its answer, and the lent bytes afterwards, follow from what was passed. Assumes nothing.
use mathlib.Core.Path.{◌≡◌, sym, ap, ◌∙◌}
use mathlib.Core.List.{List}
use Prim.Native.Nat.{ℕ, ◌*◌}
use lib.ListN.{drop, take-append-drop}
use Rattle.lists.specs.Rows.{rows_of, flat}
use Rattle.lists.proofs.Promise.{Determined, OneResult}
use Rattle.lists.proofs.RowLaws.{flat-rows_of}
use Rattle.withdrawals_replay.specs.inner.Slots.{slot_wide}
use Rattle.withdrawals_replay.proofs.begin_slots.Kinds as begin-slots
use Rattle.withdrawals_replay.proofs.begin_slots.Reads as begin-slots-reads
use Rattle.withdrawals_replay.proofs.take_into.Kinds as take-into
use Rattle.withdrawals_replay.proofs.take_into.Reads as take-into-reads
use Rattle.withdrawals_replay.proofs.fits_after.Kinds as fits_after
use Rattle.withdrawals_replay.proofs.fits_after.Reads as fits-after-reads
use Rattle.withdrawals_replay.proofs.settle.Kinds as settle
use Rattle.withdrawals_replay.proofs.settle.Reads as settle-reads
use Rattle.withdrawals_replay.proofs.replay.Kinds as replay
use Rattle.withdrawals_replay.proofs.replay.Reads as replay-reads

pub begin-slots-determined : Determined 4 begin-slots.ps begin-slots.r begin-slots-reads.Post (λ κs x s. s.1.1.1.1.1.1.0.now)
begin-slots-determined κs a x y s t p q = p ∙ sym q

pub take-into-determined : Determined 2 take-into.ps take-into.r take-into-reads.Post (λ κs x s. s.0.now)
take-into-determined κs a x y s t p q = p ∙ sym q

pub fits-after-determined : OneResult 2 fits_after.ps fits_after.r fits-after-reads.Post
fits-after-determined κs a x y s t p q = p ∙ sym q

pub settle-determined : OneResult 2 settle.ps settle.r settle-reads.Post
settle-determined κs a x y s t p q = p.0 ∙ sym q.0

pub settle-rows-determined : Determined 2 settle.ps settle.r settle-reads.Post (λ κs x s. s.0.now)
settle-rows-determined κs a x y s t p q = p.1 ∙ sym q.1

-- ---- `replay`: every lent byte, those of the slots and those behind them

-- bytes with the same first rows and the same rest
same_bytes : (w c : ℕ) (x y : List ℕ) → rows_of w c x ≡ rows_of w c y → drop (c * w) x ≡ drop (c * w) y → x ≡ y
same_bytes w c x y e f =
    let front = sym (flat-rows_of w c x) ∙ ap flat e ∙ flat-rows_of w c y in
    sym (take-append-drop (c * w) x) ∙ rw (front, f) (take-append-drop (c * w) y)

pub replay-determined : Determined 4 replay.ps replay.r replay-reads.Post (λ κs x s. s.1.1.1.1.1.1.1.1.0.now)
replay-determined κs a x y s t p q = same_bytes slot_wide _ _ _ (p.0 ∙ sym q.0) (p.1 ∙ sym q.1)
