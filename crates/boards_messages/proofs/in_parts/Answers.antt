-- `in_parts` meets its contract. Assumes nothing.
use Prim.Native.Nat.{ℕ, ◌*◌, ◌≤◌}
use mathlib.Core.Path.{sym}
use native.Mathlib.Omega.{arith}
use lib.ListN.{length-replicate}
use Rattle.lists.proofs.AreaLaws.{made-room}
use Rattle.passage.specs.Layout.{body_wide}
use Rattle.calls.specs.End.{most_rows}
use Rattle.boards_messages.proofs.in_parts.Goals as goal

-- said out of sight of the area: there its length would be counted
all-rows : most_rows * body_wide ≤ most_rows * body_wide
all-rows = omega arith

pub slice_bounds-feed_through-end : goal.slice_bounds-feed_through-end
slice_bounds-feed_through-end c = sym (length-replicate {A = ℕ} (most_rows * body_wide) 0)

pub feed_through-requires : goal.feed_through-requires
feed_through-requires c = (c.requires, made-room (most_rows * body_wide) (most_rows * body_wide) all-rows)

pub returns : goal.returns
returns c = c.feed_through.ensures
