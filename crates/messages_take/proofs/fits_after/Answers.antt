use mathlib.Core.Path.{sym}
use Prim.Native.Nat.{ℕ, ◌+◌, ◌*◌, ◌≤◌}
use native.Mathlib.Nat.{mul-le-mul_right}
use native.Mathlib.Omega.{arith}
use lib.ListN.{length-replicate}
use Rattle.lists.proofs.AreaLaws.{made-room}
use Rattle.passage.specs.Layout.{row_wide}
use Rattle.table.specs.Rules.{most_rows}
use Rattle.messages_take.proofs.TrialLaws.{all_fit}
use Rattle.messages_take.proofs.fits_after.Goals as goal

pub returns-then-count-updates : goal.returns-then-count-updates
returns-then-count-updates c =
    let a = c.args in
    all_fit a.bodies.now a.table.now a.count a.updates a.most c.if-count-updates.true

pub slice_bounds-trial_fits-end : goal.slice_bounds-trial_fits-end
slice_bounds-trial_fits-end c = sym (length-replicate {A = ℕ} ((most_rows + 1) * row_wide) 0)

pub trial_fits-requires : goal.trial_fits-requires
trial_fits-requires c =
    let p = c.requires in
    let most = c.args.most in
    let fits : most + 1 ≤ most_rows + 1 = omega arith in
    record { row_wide_in_bounds = (p.row_wide_in_bounds.0, p.row_wide_in_bounds.1, p.row_wide_in_bounds.2, made-room ((most + 1) * row_wide) ((most_rows + 1) * row_wide) (mul-le-mul_right row_wide fits)); table_value = p.table_value }

pub returns : goal.returns
returns c = c.trial_fits.ensures
