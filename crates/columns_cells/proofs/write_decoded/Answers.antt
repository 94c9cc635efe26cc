use mathlib.Core.Path.{◌≡◌, sym, ap}
use native.Mathlib.Omega.{arith}
use Rattle.std.specs.Prelude.{Some}
use Rattle.texts.specs.Texts.{text}
use Rattle.texts.proofs.KeptLaws.{text-length}
use Rattle.columns.specs.Cell.{text_cell}
use Rattle.columns_cells.proofs.WriteLaws.{kept-none, kept-long}
use Rattle.columns_cells.proofs.write_decoded.Goals as goal

pub copy_to-requires : goal.copy_to-requires
copy_to-requires c =
    let ten = text-length _ _ (sym c.in-Some.ensures) in
    omega arith

pub returns-in-Some : goal.returns-in-Some
returns-in-Some c =
    let read : Some c.in-Some.kept ≡ text c.args.field.now = c.in-Some.ensures in
    let ten = text-length _ _ (sym read) in
    let t = kept-long c.args.at c.args.row.now (ap text_cell read) (omega arith) c.copy_to.ensures in record { some = t.0; written = t.1 }

pub returns-in-None : goal.returns-in-None
returns-in-None c =
    let t = kept-none c.args.at c.args.row.now (ap text_cell (sym c.in-None.ensures)) in record { some = t.0; written = t.1 }
