use mathlib.Core.Path.{◌∙◌}
use Rattle.keys.proofs.WordLaws.{word-is}
use Rattle.keys.proofs.word_at.Goals as goal

pub returns : goal.returns
returns c = c.from_be_bytes.ensures ∙ word-is c.args.at c.args.bytes.now c.requires
