-- `next_word` meets its contract. Assumes nothing.
use mathlib.Core.Path.{ap, ◌∙◌}
use Rattle.script_text.specs.Rules.{from_word}
use Rattle.script_text.proofs.TextLaws.{next_word}
use Rattle.script_text.proofs.next_word.Goals as goal

pub returns : goal.returns
returns c = c.from_word.ensures ∙ ap from_word (next_word c.args.t.now c.run_of.result c.run_of.ensures.is)
