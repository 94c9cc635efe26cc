use mathlib.Core.Path.{sym, ◌∙◌}
use Rattle.reader_step.proofs.named_place.Goals as goal

pub returns-then-is_named : goal.returns-then-is_named
returns-then-is_named c = rw (sym c.is_named.ensures ∙ c.if-is_named.true)

pub returns : goal.returns
returns c = rw (sym c.is_named.ensures ∙ c.if-is_named.false)
