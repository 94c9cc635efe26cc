-- `from_word` meets its contract. Assumes nothing.
use Rattle.script_text.proofs.TextLaws.{from-word}
use Rattle.script_text.proofs.from_word.Goals as goal

pub returns : goal.returns
returns c = from-word c.args.s.now c.run_of.result c.run_of.ensures.is
