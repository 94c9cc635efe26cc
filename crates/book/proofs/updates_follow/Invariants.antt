use mathlib.Core.Path.{◌≡◌}
use mathlib.Core.Bool.{true}
use lib.ListN.{drop}
use Rattle.lists.specs.Rows.{rows_of}
use Rattle.passage.proofs.CommonLaws.{left}
use Rattle.book.specs.Entries.{body_at, entry_wide}
use Rattle.book.specs.Rules.{chained, no_entry}
use Rattle.book.specs.inner.Steps.{chained_as}
use Rattle.book.proofs.PlaceLaws.{rest}
use Rattle.passage.specs.inner.Roles.{all_common}
use Rattle.book.proofs.updates_follow.Given as goal

abbrev pub invariant-loop-i : goal.invariant-loop-i
invariant-loop-i l =
    (chained_as l.last.number l.last.sender l.last.kind (rest l.book l.at l.entries l.i) ≡ chained no_entry (rows_of entry_wide l.entries (drop l.at l.book)))
    × (all_common (left entry_wide body_at l.entries l.at l.book l.i) ≡ true)
