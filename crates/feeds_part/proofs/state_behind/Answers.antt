use mathlib.Core.Path.{sym, ◌∙◌}
use Rattle.feeds_part.proofs.ByteLaws.{stuck-to}
use Rattle.feeds_part.proofs.state_behind.Goals as goal

pub returns-in-Ok : goal.returns-in-Ok
returns-in-Ok c = sym c.scan.ensures ∙ c.in-Ok.is

pub returns-in-Err : goal.returns-in-Err
returns-in-Err c = absurd (stuck-to (sym c.in-Err.is ∙ c.scan.ensures ∙ c.requires.1))
