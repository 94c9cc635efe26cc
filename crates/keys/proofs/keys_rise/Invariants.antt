use mathlib.Core.Path.{◌≡◌}
use mathlib.Core.List.{map}
use Prim.Native.Nat.{◌-◌}
use Rattle.lists.specs.Part.{part}
use Rattle.lists.specs.Rows.{rows_of}
use Rattle.keys.specs.Sorted.{sorted_rows}
use Rattle.keys.proofs.RiseLaws.{left}
use Rattle.keys.proofs.keys_rise.Given as goal

abbrev pub invariant-loop-row : goal.invariant-loop-row
invariant-loop-row l = sorted_rows (map (part l.offset (l.width - l.offset)) (rows_of l.width l.count l.bytes)) ≡ sorted_rows (left l.width l.offset l.count l.bytes (l.row - 1))
