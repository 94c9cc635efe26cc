use Prim.Native.Nat.{◌-◌}
use mathlib.Core.Path.{◌∙◌}
use Rattle.lists.proofs.PartLaws.{tail_all}
use Rattle.turbo_lines.proofs.after_mark.Goals as goal

pub returns : goal.returns
returns c = tail_all c.mark_size.result c.args.line.now ∙ c.mark_size.ensures.is
