use mathlib.Core.Path.{sym}
use Rattle.passage.proofs.FieldLaws.{row-at}
use Rattle.passage.proofs.row_in_range.Goals as goal

pub returns : goal.returns
returns c =
    rw (
      c.heard_in_range.ensures,
      c.get_number-stamp.ensures,
    )
    (sym (rw c.requires.bytes_value at (row-at c.args.at c.args.bytes.now)))
