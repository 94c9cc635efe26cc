use mathlib.Core.List.{map}
use mathlib.Core.Path.{◌≡◌}
use lib.ListN.{take}
use Rattle.book.proofs.PlanLaws.{bodies}
use Rattle.lists.specs.Part.{over}
use Rattle.lists.specs.Rows.{flat}
use Rattle.withdrawals_replay.specs.inner.Worked.{begun_slot, names_at}
use Rattle.withdrawals_replay.proofs.begin_slots.Given as goal

abbrev pub invariant-loop-i : goal.invariant-loop-i
invariant-loop-i l = (l.slots ≡ over 0 (flat (take l.i (map (begun_slot (bodies l.plans l.book)) (names_at l.message (take l.named l.order))))) l.initial.slots)
