use mathlib.Core.Path.{◌≡◌}
use lib.ListN.{length}
use Rattle.lists.specs.Rows.{rows_of}
use Rattle.passage.specs.Layout.{row_wide}
use Rattle.messages_take.proofs.AbsentLaws.{Looked}
use Rattle.messages_take.proofs.locate_all.Given as goal

abbrev pub invariant-loop-k : goal.invariant-loop-k
invariant-loop-k l = (length l.places ≡ length l.initial.places) × Looked (rows_of row_wide l.count l.table) l.updates l.bodies l.k l.missing
