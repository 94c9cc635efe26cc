-- `behind` meets its contract. Assumes nothing.
use mathlib.Core.Path.{◌∙◌}
use Rattle.turbo.proofs.SplitLaws.{past_is}
use Rattle.script_text.proofs.behind.Goals as goal

pub returns-clause-is : goal.returns-clause-is
returns-clause-is c = c.after.ensures.is ∙ past_is _ _ _ c.find.ensures.is

pub returns-clause-shorter : goal.returns-clause-shorter
returns-clause-shorter c = c.after.ensures.shorter
