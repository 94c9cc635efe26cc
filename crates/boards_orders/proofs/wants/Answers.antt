-- `wants` meets its contract. Assumes nothing.
use mathlib.Core.Path.{ap}
use Prim.Native.Nat.{ℕ, ◌+◌}
use Rattle.boards_orders.specs.declared.Order.TheVariants.{Bad}
use Rattle.boards_orders.proofs.wants.Goals as goal

pub returns : goal.returns
returns c = ap (λ (n : ℕ). Bad 0 (15 + n)) c.at_most.ensures.is
