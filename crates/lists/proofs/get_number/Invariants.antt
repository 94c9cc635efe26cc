use Rattle.std.proofs.Common.{◌≡◌, ◌≤◌, length, take}
use Rattle.lists.specs.BigEndian.{number}
use Rattle.lists.proofs.get_number.Given as goal

abbrev pub invariant-loop-byte : goal.invariant-loop-byte
invariant-loop-byte l = (l.byte-index ≤ length l.byte-items) × (l.n ≡ number (take l.byte-index l.byte-items))
