use Prim.Native.Nat.{◌≤◌}
use mathlib.Core.Path.{◌≡◌}
use lib.ListN.{length, drop}
use Rattle.feeds.specs.Kept.{zeros}
use Rattle.feeds.proofs.clear_behind.Given as goal

abbrev pub invariant-loop-i : goal.invariant-loop-i
invariant-loop-i l = (l.i ≤ 48) × (length l.kept ≡ 48) × (zeros (drop l.i l.kept) ≡ zeros (drop 38 l.kept))
