-- `script::load_from` meets its contract. Assumes nothing.
use mathlib.Core.Logic.{inl, inr}
use Rattle.boards_deeds.proofs.DeedLaws.{held-is}
use Rattle.boards.proofs.script.load_from.Goals as goal

pub returns-in_default : goal.returns-in_default
returns-in_default c = inl (held-is _ _ _ _ _ c.bad.ensures)

pub returns : goal.returns
returns c = inr (c.front.result.now, c.load-2.ensures)
