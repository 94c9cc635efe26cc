use Prim.Native.Nat.{◌+◌, ◌≤◌}
use mathlib.Core.Path.{◌≡◌}
use lib.ListN.{length}
use Rattle.turbo.specs.Split.{fields}
use Rattle.turbo_labels.specs.Columns.{column_of}
use Rattle.turbo_labels.proofs.column_of.Given as goal

abbrev pub invariant-loop-column : goal.invariant-loop-column
invariant-loop-column l =
    (l.column + length l.rest ≤ length l.labels)
    × (l.column + column_of l.name (fields l.rest) ≡ column_of l.name (fields l.labels))
