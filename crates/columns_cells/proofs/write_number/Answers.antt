use mathlib.Core.Path.{sym, ap}
use Rattle.columns.specs.Cell.{number_cell}
use Rattle.columns_cells.proofs.WriteLaws.{kept-none, kept-spelled}
use Rattle.columns_cells.proofs.write_number.Goals as goal

pub returns-in-Some : goal.returns-in-Some
returns-in-Some c =
    let told = c.in-Some.is in
    let t = kept-spelled c.args.at c.args.row.now c.args.size _ (ap (number_cell c.args.size) (sym told)) c.requires.0 c.put_number.ensures in record { some = t.0; written = t.1 }

pub returns-in-None : goal.returns-in-None
returns-in-None c =
    let t = kept-none c.args.at c.args.row.now (ap (number_cell c.args.size) c.in-None.is) in record { some = t.0; written = t.1 }
