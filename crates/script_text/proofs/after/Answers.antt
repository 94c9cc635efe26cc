-- `after` meets its contract. Assumes nothing.
use mathlib.Core.Path.{◌∙◌}
use Rattle.script_text.proofs.TextLaws.{after-min, after-shorter}
use Rattle.script_text.proofs.after.Goals as goal

pub cut-requires : goal.cut-requires
cut-requires c = c.at_most.ensures.within

pub returns-clause-is : goal.returns-clause-is
returns-clause-is c = c.cut.ensures.behind ∙ after-min _ _ _ c.at_most.ensures.is

pub returns-clause-shorter : goal.returns-clause-shorter
returns-clause-shorter c = after-shorter c.args.place c.args.text.now _ (c.cut.ensures.behind ∙ after-min _ _ _ c.at_most.ensures.is)
