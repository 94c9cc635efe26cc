use mathlib.Core.Path.{◌≡◌}
use Prim.Native.Nat.{◌*◌}
use lib.ListN.{take, drop}
use Rattle.withdrawals_replay.specs.inner.Slots.{slot_wide, slots_of}
use Rattle.withdrawals_replay.specs.inner.Worked.{names_at}
use Rattle.withdrawals_replay.proofs.HeardLaws.{Heard}
use Rattle.withdrawals_replay.proofs.replay.Given as goal

abbrev pub invariant-loop-i : goal.invariant-loop-i
invariant-loop-i l = (drop (l.named * slot_wide) l.slots ≡ drop (l.named * slot_wide) l.initial.slots) × Heard l.number l.book l.at l.updates (names_at l.message (take l.named l.order)) (slots_of l.named l.initial.slots) l.i (slots_of l.named l.slots)
