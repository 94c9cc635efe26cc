use mathlib.Core.Path.{◌≡◌, sym, ap, ◌∙◌}
use mathlib.Core.Bool.{true}
use native.Mathlib.Omega.{arith}
use Rattle.texts.proofs.KeptLaws.{padded-length}
use Rattle.texts.proofs.PlainLaws.{plain-is, plain-text}
use Rattle.columns.specs.Cell.{text_cell}
use Rattle.columns_cells.proofs.WriteLaws.{kept-long}
use Rattle.texts.specs.inner.Steps.{plain}
use Rattle.columns_cells.proofs.write_text.Goals as goal

pub write_plain-requires : goal.write_plain-requires
write_plain-requires c =
    (c.requires, (plain-is _ (sym c.is_plain.ensures ∙ c.if-is_plain.true)).1)

pub returns-then-is_plain : goal.returns-then-is_plain
returns-then-is_plain c =
    let f = c.args.field.now in
    let told : plain f ≡ true = sym c.is_plain.ensures ∙ c.if-is_plain.true in
    let ten = padded-length f (plain-is f told).1 in
    let t = kept-long c.args.at c.args.row.now (ap text_cell (sym (plain-text f told))) (omega arith) c.write_plain.ensures in record { some = t.0; written = t.1 }

pub returns : goal.returns
returns c = c.write_decoded.ensures
