-- `ask` meets its contract. Assumes nothing.
use Rattle.boards_deeds.proofs.DeedLaws.{ask-shown, ask-refused}
use Rattle.boards_deeds.proofs.ask.Goals as goal

pub returns-then-ask : goal.returns-then-ask
returns-then-ask c =
    let a = c.args in
    let k = c.ask in
    ask-shown a.line.now a.date a.second a.horizon a.table.now a.held k.result k.ensures c.if-ask.true

pub returns : goal.returns
returns c =
    let a = c.args in
    let k = c.ask in
    ask-refused a.line.now a.date a.second a.horizon a.table.now a.held k.result k.ensures c.decline.result c.decline.ensures c.if-ask.false
