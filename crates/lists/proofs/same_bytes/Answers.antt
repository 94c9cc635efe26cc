use Rattle.std.proofs.Common.{◌∙◌}
use Rattle.lists.proofs.TextLaws.{pointwise-same}
use Rattle.lists.proofs.same_bytes.Goals as goal

pub returns : goal.returns
returns c = c.eq.ensures ∙ pointwise-same c.args.left.now c.args.right.now
