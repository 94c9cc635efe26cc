-- `tell_message` hands on the names of its form's columns. Assumes nothing.
use mathlib.Core.Path.{sym, ap}
use Rattle.turbo.specs.Split.{fields}
use Rattle.columns.specs.declared.Form.{Form}
use Rattle.columns.specs.declared.Table.TheVariants.{Message}
use Rattle.columns.specs.Tables.{names, columns_in, message_columns}
use Rattle.boards_reasons.proofs.tell_message.Goals as goal

pub tell_among-requires : goal.tell_among-requires
unfolding fields names columns_in message_columns
tell_among-requires c = ap (λ (f : Form). names (Message f)) (sym c.in-Old.is)

pub tell_among-requires-in-New : goal.tell_among-requires-in-New
unfolding fields names columns_in message_columns
tell_among-requires-in-New c = ap (λ (f : Form). names (Message f)) (sym c.in-New.is)
