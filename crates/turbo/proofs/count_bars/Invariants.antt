use mathlib.Core.Path.{◌≡◌}
use lib.ListN.{take}
use Rattle.std.specs.List.{count_by}
use Rattle.turbo.specs.inner.Bars.{is_bar}
use Rattle.turbo.proofs.count_bars.Given as goal

abbrev pub invariant-loop-b : goal.invariant-loop-b
invariant-loop-b l = l.bars ≡ count_by is_bar (take l.b-index l.bytes)
