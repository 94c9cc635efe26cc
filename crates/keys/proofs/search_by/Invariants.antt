use mathlib.Core.Path.{◌≡◌}
use mathlib.Core.Bool.{true}
use mathlib.Core.List.{List}
use Prim.Native.Nat.{ℕ, ◌-◌, ◌≤◌}
use lib.ListN.{length}
use Rattle.keys.specs.Sorted.{sorted_rows, Compares}
use Rattle.keys.proofs.FindLaws.{Seek}
use Rattle.keys.proofs.search_by.Given as goal

-- whatever rows the places are, a key is sought among those from lo to hi
abbrev pub invariant-loop-lo : goal.invariant-loop-lo
invariant-loop-lo g l = (l.hi ≤ l.count) × ((k : List ℕ) (rs : List (List ℕ)) → length rs ≡ l.count → sorted_rows rs ≡ true → Compares (goal.F-post g l.compare) k rs → Seek rs k l.lo l.hi)

abbrev pub decreases-loop-lo : goal.decreases-loop-lo
decreases-loop-lo g l = l.hi - l.lo
