use mathlib.Core.Path.{sym}
use mathlib.Core.Logic.{inl, inr}
use Prim.Native.Nat.{ℕ, ◌*◌}
use native.Mathlib.Nat.{le_refl}
use native.Mathlib.Omega.{arith}
use lib.ListN.{length-replicate}
use Rattle.lists.proofs.AreaLaws.{made-room}
use Rattle.passage.specs.Layout.{body_wide}
use Rattle.opening_write.specs.inner.Steps.{most_plans}
use Rattle.opening.specs.inner.Joining.{few_pairs}
use Rattle.opening.proofs.AreaLaws.{pairs_below, few-fit}
use Rattle.opening.proofs.join_fitting.Goals as goal

pub overflow_mul-times : goal.overflow_mul-times
overflow_mul-times c =
    let k = pairs_below c.args.times c.args.days c.requires.2 c.requires.3 in
    omega arith

-- ---- few pairs, each with room
pub slice_bounds-join_all-end : goal.slice_bounds-join_all-end
slice_bounds-join_all-end c = sym (length-replicate {A = ℕ} (few_pairs * body_wide) 0)

pub join_all-requires : goal.join_all-requires
join_all-requires c =
    let q = c.args.times * c.args.days in
    (c.requires.0, c.requires.1, inl (made-room (q * body_wide) (few_pairs * body_wide) (few-fit q c.if-times-days-le-FEW_PAIRS.true)))

pub returns-then-times-days-le-FEW_PAIRS : goal.returns-then-times-days-le-FEW_PAIRS
returns-then-times-days-le-FEW_PAIRS c = c.join_all.ensures

-- ---- else room for as many as a book holds
pub slice_bounds-join_all-end-2 : goal.slice_bounds-join_all-end-2
slice_bounds-join_all-end-2 c = sym (length-replicate {A = ℕ} (most_plans * body_wide) 0)

pub join_all-requires-2 : goal.join_all-requires-2
join_all-requires-2 c =
    (c.requires.0, c.requires.1, inr (made-room (most_plans * body_wide) (most_plans * body_wide) (le_refl (most_plans * body_wide))))

pub returns : goal.returns
returns c = c.join_all-2.ensures
