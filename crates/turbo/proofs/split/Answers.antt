use mathlib.Core.Path.{◌∙◌}
use Rattle.turbo.proofs.SplitLaws.{upto_is, past_is}
use Rattle.turbo.proofs.split.Goals as goal

pub returns-clause-before : goal.returns-clause-before
returns-clause-before c = c.cut.ensures.before ∙ upto_is c.args.byte _ _ c.find.ensures.is

pub returns-clause-behind : goal.returns-clause-behind
returns-clause-behind c = c.cut.ensures.behind ∙ past_is c.args.byte _ _ c.find.ensures.is
