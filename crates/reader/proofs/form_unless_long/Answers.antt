use mathlib.Core.Path.{sym, ◌∙◌}
use Rattle.reader.proofs.ShortLaws.{form-long, form-short}
use Rattle.reader.proofs.form_unless_long.Goals as goal

pub returns-in-Some : goal.returns-in-Some
returns-in-Some c = form-long c.args.line _ c.args.form c.args.rest.now c.requires.0 (sym c.first_long.ensures ∙ c.in-Some.is)

pub returns-in-None : goal.returns-in-None
returns-in-None c = form-short c.args.line c.args.form c.args.rest.now (sym c.first_long.ensures ∙ c.in-None.is)
