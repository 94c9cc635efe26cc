-- `part` meets its contract. Assumes nothing.
use Rattle.script_text.proofs.TextLaws.{part-is}
use Rattle.script_text.proofs.part.Goals as goal

pub returns : goal.returns
returns c = part-is _ _ _ _ c.at_most.ensures.is c.front-f.ensures
