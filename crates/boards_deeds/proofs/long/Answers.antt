-- `long` meets its contract. Assumes nothing.
use Rattle.std.proofs.Common.{ap, ◌∙◌}
use Rattle.boards_deeds.specs.Deeds.{missed}
use Rattle.boards_deeds.proofs.long.Goals as goal

pub returns : goal.returns
returns c = c.miss.ensures ∙ ap missed c.next.ensures
