use mathlib.Core.Path.{sym}
use Rattle.passage.proofs.FieldLaws.{update-at}
use Rattle.passage.proofs.update_in_range.Goals as goal

pub returns : goal.returns
returns c =
    rw (
      c.in_stamp_range.ensures,
      c.get_number-stamp.ensures,
    )
    (sym (rw c.requires.bytes_value at (update-at c.args.at c.args.bytes.now)))
