use Prim.Native.Nat.{◌-◌}
use native.Mathlib.Omega.{arith}
use borrow.Author.Rules.{rules}
use mathlib.Core.Path.{◌∙◌}
use Rattle.turbo_lines.proofs.MarkLaws.{mark-short, mark-plain, mark-slash}
use Rattle.turbo_lines.proofs.mark_of.Goals as goal

pub returns-in-92 : goal.returns-in-92
returns-in-92 c = c.mark_letter.ensures ∙ mark-slash c.args.line.now (omega arith) (search rules)

pub returns-in_default : goal.returns-in_default
returns-in_default c = mark-short c.args.line.now (omega arith)

pub returns-in_default-2 : goal.returns-in_default-2
returns-in_default-2 c = mark-plain c.args.line.now (search rules)
