use mathlib.Core.Path.{◌≡◌}
use Rattle.lists.specs.Text.{same}
use Rattle.columns.specs.Cell.{null}
use Rattle.columns_cells.proofs.is_null.Goals as goal

pub returns : goal.returns
returns c =
    let told : c.same_bytes.result ≡ same c.args.field.now null = c.same_bytes.ensures in
    told
