use mathlib.Core.Path.{sym}
use Rattle.passage.proofs.FieldLaws.{body_at}
use Rattle.passage.proofs.common_at.Goals as goal

pub is_date_beside-requires : goal.is_date_beside-requires
is_date_beside-requires c = c.requires.date_value.1

pub returns : goal.returns
returns c =
    rw (
      c.times_in_range.ensures,
      c.is_date_beside.ensures,
      c.texts_at.ensures,
      c.get_number-departure.ensures,
      c.get_number-arrival.ensures,
      c.get_number-order.ensures,
      c.get_number-journey.ensures,
    )
    (sym (rw (← c.requires.date_value.0) at (body_at c.args.at c.args.bytes.now)))
