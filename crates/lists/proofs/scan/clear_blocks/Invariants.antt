use Prim.Native.Nat.{◌*◌}
use Rattle.lists.specs.Scan.{Clear}
use Rattle.lists.proofs.scan.clear_blocks.Given as goal

abbrev pub invariant-loop-i : goal.invariant-loop-i
invariant-loop-i g l = Clear (goal.F-post g l.test) l.bytes (16 * l.i)
