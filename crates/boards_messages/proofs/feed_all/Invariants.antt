use mathlib.Core.Path.{◌≡◌}
use lib.ListN.{length}
use Rattle.feeds_whole.specs.Parts.{lent, fed_parts}
use Rattle.boards_messages.specs.inner.Cut.{cut}
use Rattle.boards_messages.proofs.feed_all.Given as goal

-- what is left to feed leads where all of it did
abbrev pub invariant-loop-rest : goal.invariant-loop-rest
invariant-loop-rest l =
    fed_parts l.register (lent l.kept l.line l.staging) (cut l.size l.rest) ≡ fed_parts l.register (lent l.initial.kept l.initial.line l.initial.staging) (cut l.size l.dossier)

abbrev pub decreases-loop-rest : goal.decreases-loop-rest
decreases-loop-rest l = length l.rest
