use Prim.Native.Nat.{◌+◌, ◌-◌, ◌≤◌}
use Rattle.lists.specs.Part.{part}
use Rattle.passage.specs.Layout.{key_wide}
use Rattle.keys.proofs.FindLaws.{Seek}
use Rattle.table.specs.Rules.{rows}
use Rattle.table.proofs.find_near.Given as goal

abbrev pub invariant-loop-low : goal.invariant-loop-low
invariant-loop-low l = (l.high ≤ l.count) × (l.leap ≤ l.count + 64) × (l.next ≤ l.count + 64) × Seek (rows l.count l.table) (part l.from key_wide l.key) l.low l.high

abbrev pub decreases-loop-low : goal.decreases-loop-low
decreases-loop-low l = l.high - l.low
