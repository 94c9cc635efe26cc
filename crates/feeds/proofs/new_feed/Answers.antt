use mathlib.Core.Path.{ap}
use Rattle.reader_step.proofs.StepLaws.{fresh-one}
use Rattle.feeds.proofs.KeptLaws.{beginning}
use Rattle.feeds.proofs.new_feed.Goals as goal

pub returns : goal.returns
returns c = ap (beginning c.args.sender c.args.form) (fresh-one c.start.result c.start.ensures)
