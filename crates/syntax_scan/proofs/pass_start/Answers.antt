use mathlib.Core.Path.{◌∙◌}
use Rattle.syntax_scan.proofs.TurnLaws.{start-alike}
use Rattle.syntax_scan.proofs.pass_start.Goals as goal

pub returns-in-Rows-clause-leads : goal.returns-in-Rows-clause-leads
returns-in-Rows-clause-leads c = rw c.in-Rows.is (start-alike c.args.bytes.now c.args.i c.requires c.if-bytes-i-ne92.true ∙ c.pass_text.ensures.leads)
