use mathlib.Core.Path.{◌∙◌}
use Rattle.table.proofs.SoundLaws.{room-min}
use Rattle.table.proofs.rows_room.Goals as goal

pub returns : goal.returns
returns c = c.min.ensures ∙ room-min c.args.table.now
