-- `front` meets its contract. Assumes nothing.
use Rattle.script_text.proofs.TextLaws.{take_min}
use Rattle.script_text.proofs.front.Goals as goal

pub returns : goal.returns
returns c = take_min c.args.count _ c.args.text.now c.at_most.ensures.is
