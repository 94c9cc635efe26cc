use borrow.Author.Tests.{eq-eqb, ne_eqb}
use Rattle.update.proofs.kept_or.Goals as goal

pub returns-then-said-eq-KEPT : goal.returns-then-said-eq-KEPT
returns-then-said-eq-KEPT c = rw (eq-eqb _ _ c.if-said-eq-KEPT.true)

pub returns-else-said-eq-KEPT : goal.returns-else-said-eq-KEPT
returns-else-said-eq-KEPT c = rw (ne_eqb _ _ c.if-said-eq-KEPT.false)
