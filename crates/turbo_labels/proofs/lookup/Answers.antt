use mathlib.Core.Path.{◌∙◌}
use Rattle.turbo_labels.proofs.LookupLaws.{under-found, under-missing}
use Rattle.turbo_labels.proofs.lookup.Goals as goal

pub returns-then-column-columns : goal.returns-then-column-columns
returns-then-column-columns c = let a = c.args in c.field_of.ensures ∙ under-found a.column a.columns a.line.now c.if-column-columns.true

pub returns : goal.returns
returns c = let a = c.args in under-missing a.column a.columns a.line.now c.if-column-columns.false
