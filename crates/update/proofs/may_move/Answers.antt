use mathlib.Core.Path.{refl, sym}
use Rattle.update.specs.Moves.{table17, may_move}
use Rattle.update.proofs.TableLaws.{none-held, none_said}
use Rattle.update.proofs.may_move.Goals.{else-held-le5-via-then-held-le5+else-said-le5, else-held-le5-via-else-held-le5}
use Rattle.update.proofs.may_move.Goals as goal

pub returns-then-said-le5 : goal.returns-then-said-le5
unfolding may_move table17
returns-then-said-le5 c = refl

pub returns-else-held-le5 : goal.returns-else-held-le5
returns-else-held-le5 c = elim c.else-held-le5.branch [
  | else-held-le5-via-then-held-le5+else-said-le5 w ↦ sym (none_said _ _ w.if-held-le5.true w.if-said-le5.false)
  | else-held-le5-via-else-held-le5 w ↦ sym (none-held _ _ w.if-held-le5.false)
]
