use mathlib.Core.Path.{ap}
use Rattle.columns.specs.declared.Table.TheVariants.{Message}
use Rattle.feeds.proofs.message_of.Goals as goal

pub returns : goal.returns
returns c = ap Message c.form_of.ensures
