-- `take_sound` meets its contract. Assumes nothing.
use Prim.Native.Nat.{ℕ, ◌*◌, ◌+◌, ◌≤◌}
use mathlib.Core.Path.{sym}
use native.Mathlib.Omega.{arith}
use lib.ListN.{length, length-replicate}
use Rattle.lists.proofs.AreaLaws.{made-room}
use Rattle.passage.specs.Layout.{body_wide}
use Rattle.messages_take.specs.inner.Fitting.{most_updates}
use Rattle.messages.specs.inner.Steps.{few_updates}
use Rattle.messages.proofs.take_sound.Goals as goal

-- ---- what has room, said out of sight of the areas: there each length would be counted
short-room : (size n : ℕ) → size ≤ 8192 → n * 27 ≤ size + 2 → n * body_wide ≤ few_updates * body_wide
short-room size n short l = omega arith

any-room : (n : ℕ) → n ≤ most_updates → n * body_wide ≤ most_updates * body_wide
any-room n few = omega arith

-- ---- a short dossier
pub slice_bounds-read_and_take-end : goal.slice_bounds-read_and_take-end
slice_bounds-read_and_take-end c = sym (length-replicate {A = ℕ} (few_updates * body_wide) 0)

pub read_and_take-requires : goal.read_and_take-requires
read_and_take-requires c =
    record { counts_value = c.requires; holds_rows = λ n few l. made-room (n * body_wide) (few_updates * body_wide) (short-room (length c.args.dossier.now) n c.if-dossier-le-SHORT.true l) }

pub returns-then-dossier-le-SHORT : goal.returns-then-dossier-le-SHORT
returns-then-dossier-le-SHORT c = c.read_and_take.ensures

-- ---- any dossier
pub slice_bounds-read_and_take-end-2 : goal.slice_bounds-read_and_take-end-2
slice_bounds-read_and_take-end-2 c = sym (length-replicate {A = ℕ} (most_updates * body_wide) 0)

pub read_and_take-requires-2 : goal.read_and_take-requires-2
read_and_take-requires-2 c =
    record { counts_value = c.requires; holds_rows = λ n few l. made-room (n * body_wide) (most_updates * body_wide) (any-room n few) }

pub returns : goal.returns
returns c = c.read_and_take-2.ensures
