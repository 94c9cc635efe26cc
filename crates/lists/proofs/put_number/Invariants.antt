use Rattle.std.proofs.Common.{◌≡◌, ◌+◌, ◌-◌, ◌/◌, ◌^◌}
use Rattle.lists.specs.Part.{over}
use Rattle.lists.specs.BigEndian.{spelled}
use Rattle.lists.proofs.put_number.Given as goal

abbrev pub invariant-loop-i : goal.invariant-loop-i
invariant-loop-i l =
    (l.rest ≡ l.value / 256 ^ (l.width - l.i)) × (l.bytes ≡ over (l.at + l.i) (spelled (l.width - l.i) l.value) l.initial.bytes)
