use Prim.Native.Nat.{◌-◌}
use mathlib.Core.Path.{◌∙◌}
use Rattle.turbo.proofs.SplitLaws.{upto_is}
use Rattle.turbo_lines.proofs.LineLaws.{after_line}
use Rattle.turbo_lines.proofs.read_line.Goals as goal

pub returns-clause-line : goal.returns-clause-line
returns-clause-line c = c.cut.ensures.before ∙ upto_is 13 _ _ c.find_far.ensures.is

pub returns-clause-tail : goal.returns-clause-tail
returns-clause-tail c = c.cut.ensures.behind ∙ after_line _ _ c.find_far.ensures.is
