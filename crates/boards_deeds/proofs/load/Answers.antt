-- `load` meets its contract. Assumes nothing.
use Rattle.boards_deeds.proofs.DeedLaws.{loaded-is}
use Rattle.boards_deeds.proofs.load.Goals as goal

pub returns : goal.returns
returns c =
    let a = c.args in
    let l = c.load-saved in
    let h = c.hold_day in
    loaded-is a.file.now l.result a.held h.result a.register.now _ a.book.now _ a.table.now _ l.ensures.day l.ensures.pairs l.ensures.entries l.ensures.passages h.ensures
