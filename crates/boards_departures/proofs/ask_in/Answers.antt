-- `ask_in` meets its contract. Assumes nothing.
use Rattle.boards_departures.proofs.ShownLaws.{shown-is}
use Rattle.boards_departures.proofs.ask_in.Goals as goal

pub returns : goal.returns
returns c =
    let a = c.args in
    let b = c.board-listing in
    let v = c.word-stop in
    let w = c.word-owner in
    shown-is a.line.now w.result.now v.result.now a.date a.second a.horizon a.table.now a.rows _ b.result c.told.result w.ensures v.ensures b.ensures.result_value c.told.ensures
