-- `script::open_from` meets its contract. Assumes nothing.
use mathlib.Core.Logic.{inl, inr}
use Rattle.boards_deeds.proofs.DeedLaws.{held-is}
use Rattle.boards.proofs.script.open_from.Goals as goal

pub returns-in_default : goal.returns-in_default
returns-in_default c = λ register. inl (held-is _ _ register _ _ c.bad.ensures)

pub returns-in_default-load : goal.returns-in_default-load
returns-in_default-load c = λ register. inl (held-is _ _ register _ _ c.bad-in_default-load.ensures)

pub returns : goal.returns
returns c = λ register. inr (c.front-planning.result.now, c.front-calendar.result.now, c.open.ensures register)
