use mathlib.Core.Path.{sym}
use Rattle.opening.proofs.AreaLaws.{fewer-first, fewer-second}
use Rattle.opening.proofs.fewer.Goals as goal

pub returns-then-a-b : goal.returns-then-a-b
returns-then-a-b c = sym (fewer-first _ _ c.if-a-b.true)

pub returns : goal.returns
returns c = sym (fewer-second _ _ c.if-a-b.false)
