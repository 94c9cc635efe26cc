-- `command` meets its contract. Assumes nothing.
use Rattle.boards_orders.specs.Orders.{command_of}
use Rattle.boards_orders.proofs.command.Goals as goal

pub returns : goal.returns
unfolding command_of
returns c = c.column_of.ensures
