use mathlib.Core.Path.{ap, ◌∙◌}
use Prim.Native.Nat.{◌/◌}
use Rattle.feeds.specs.Kept.{machine_at, state_at}
use Rattle.feeds.proofs.machine_at.Goals as goal

pub returns : goal.returns
unfolding machine_at
returns c = c.state_at.ensures ∙ ap (state_at (c.args.n / 4)) c.kind_at.ensures
