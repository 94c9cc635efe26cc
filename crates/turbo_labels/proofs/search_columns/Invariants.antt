use mathlib.Core.Path.{◌≡◌}
use lib.ListN.{length, drop}
use Rattle.turbo.specs.Split.{fields, tail_at}
use Rattle.turbo_labels.specs.Columns.{columns_of, most}
use Rattle.turbo_labels.proofs.ColumnLaws.{columns_from}
use Rattle.turbo_labels.proofs.search_columns.Given as goal

abbrev pub invariant-loop-i : goal.invariant-loop-i
invariant-loop-i l =
    (length l.places ≡ most)
    × (l.rest ≡ tail_at l.i l.wanted)
    × (columns_from l.i (drop l.i (fields l.wanted)) (fields l.labels) l.places ≡ columns_of (fields l.wanted) (fields l.labels))
