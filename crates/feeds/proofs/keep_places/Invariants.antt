use Prim.Native.Nat.{◌≤◌}
use mathlib.Core.Path.{◌≡◌}
use lib.ListN.{length, take}
use Rattle.lists.specs.Part.{over}
use Rattle.feeds.proofs.keep_places.Given as goal

abbrev pub invariant-loop-i : goal.invariant-loop-i
invariant-loop-i l = (l.i ≤ 20) × (length l.kept ≡ length l.initial.kept) × (length l.places ≡ 20) × (l.kept ≡ over 18 (take l.i l.places) l.initial.kept)
