-- `open` meets its contract. Assumes nothing.
use Rattle.std.proofs.Common.{refl}
use Rattle.boards_deeds.specs.Deeds.{state}
use Rattle.boards_deeds.proofs.DeedLaws.{left_is}
use Rattle.boards_deeds.proofs.open.Goals as goal

pub returns : goal.returns
returns c = let a = c.args in let o = c.open-o in λ register. left_is o.result _ _ _ a.held c.told.result (state a.held register a.book.now a.table.now) refl c.told.ensures o.ensures.lent
