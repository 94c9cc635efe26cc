use mathlib.Core.Path.{◌≡◌}
use lib.ListN.{drop}
use Rattle.std.specs.Prelude.{None}
use Rattle.turbo.specs.Split.{fields, tail_at}
use Rattle.turbo_labels.specs.inner.Search.{sought}
use Rattle.turbo_labels.proofs.place_of.Given as goal

abbrev pub invariant-loop-column : goal.invariant-loop-column
invariant-loop-column l =
    (l.rest ≡ tail_at l.column l.labels)
    × (sought l.found l.column l.name (drop l.column (fields l.labels)) ≡ sought None 0 l.name (fields l.labels))
