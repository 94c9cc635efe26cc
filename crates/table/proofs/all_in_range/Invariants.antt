use mathlib.Core.Path.{◌≡◌}
use mathlib.Core.Bool.{true}
use Rattle.passage.specs.Layout.{row_wide}
use Rattle.passage.proofs.CommonLaws.{left}
use Rattle.table.specs.Rules.{rows, all_in_range}
use Rattle.table.proofs.SoundLaws.{rest}
use Rattle.passage.specs.inner.Roles.{all_common}
use Rattle.table.proofs.all_in_range.Given as goal

abbrev pub invariant-loop-row : goal.invariant-loop-row
invariant-loop-row l = (all_in_range (rows l.count l.table) ≡ all_in_range (rest l.count l.table l.row)) × (all_common (left row_wide 0 l.count 0 l.table l.row) ≡ true)
