use Prim.Native.Nat.{◌*◌}
use mathlib.Core.Path.{◌≡◌}
use lib.ListN.{take}
use Rattle.std.specs.List.{count_by}
use Rattle.turbo.specs.inner.Bars.{is_bar}
use Rattle.turbo.proofs.bars_in_blocks.Given as goal

abbrev pub invariant-loop-i : goal.invariant-loop-i
invariant-loop-i g l = l.bars ≡ count_by is_bar (take (g.row.N * l.i) l.line)
