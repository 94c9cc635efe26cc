use mathlib.Core.Path.{sym, ◌∙◌}
use Rattle.update.proofs.status_after.Goals as goal

pub returns-then-may_move : goal.returns-then-may_move
returns-then-may_move c = rw (sym c.may_move.ensures ∙ c.if-may_move.true)

pub returns-else-may_move : goal.returns-else-may_move
returns-else-may_move c = rw (sym c.may_move.ensures ∙ c.if-may_move.false)
