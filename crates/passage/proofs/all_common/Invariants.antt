use mathlib.Core.Path.{◌≡◌}
use mathlib.Core.Bool.{true}
use mathlib.Core.List.{map}
use lib.ListN.{drop}
use Rattle.lists.specs.Part.{part}
use Rattle.lists.specs.Rows.{rows_of}
use Rattle.clock.specs.Date.{is_date}
use Rattle.passage.specs.Layout.{body_wide}
use Rattle.passage.proofs.CommonLaws.{left}
use Rattle.passage.specs.inner.Roles.{all_common}
use Rattle.passage.proofs.all_common.Given as goal

abbrev pub invariant-loop-i : goal.invariant-loop-i
invariant-loop-i l =
    (is_date l.known ≡ true) × (all_common (map (part l.offset body_wide) (rows_of l.width l.count (drop l.at l.bytes))) ≡ all_common (left l.width l.offset l.count l.at l.bytes l.i))
