use Rattle.update.proofs.ApplyLaws.{begin-writes}
use Rattle.update.proofs.begin_row.Goals as goal

pub returns : goal.returns
returns c =
    let a = c.args in
    begin-writes a.at a.row.now _ c.clear.ensures
