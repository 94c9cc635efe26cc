use Prim.Native.Nat.{◌≤◌}
use mathlib.Core.Path.{◌≡◌}
use lib.ListN.{length, replicate}
use Rattle.lists.specs.Part.{part, over}
use Rattle.feeds.proofs.places_in.Given as goal

abbrev pub invariant-loop-i : goal.invariant-loop-i
invariant-loop-i l = (l.i ≤ 20) × (length l.kept ≡ 48) × (length l.places ≡ 20) × (l.places ≡ over 0 (part 18 l.i l.kept) (replicate 20 0))
