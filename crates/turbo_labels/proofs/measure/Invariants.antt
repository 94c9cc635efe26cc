use Prim.Native.Nat.{ℕ, ◌<◌}
use mathlib.Core.Path.{◌≡◌}
use lib.ListN.{length, get_or}
use Rattle.turbo.specs.Split.{until, tail_at}
use Rattle.turbo_labels.proofs.measure.Given as goal

abbrev pub invariant-loop-k : goal.invariant-loop-k
invariant-loop-k l =
    (length l.sizes ≡ length l.initial.sizes)
    × (l.rest ≡ tail_at l.k l.labels)
    × ((m : ℕ) → m < l.k → get_or l.sizes m 0 ≡ length (until 124 (tail_at m l.labels)))
