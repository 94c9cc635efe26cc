use mathlib.Core.Path.{sym}
use Rattle.passage.proofs.FieldLaws.{plan-at}
use Rattle.passage.proofs.plan_in_range.Goals as goal

pub returns : goal.returns
returns c =
    rw c.get_number-stamp.ensures
    (sym (rw c.requires.bytes_value at (plan-at c.args.at c.args.bytes.now)))
