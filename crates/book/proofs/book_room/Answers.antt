use mathlib.Core.Path.{◌∙◌}
use Rattle.book.proofs.SoundLaws.{room-min}
use Rattle.book.proofs.book_room.Goals as goal

pub returns : goal.returns
returns c = c.min.ensures ∙ room-min c.args.book.now
